-- What a sector of a log holds.
pub mod Fields
pub mod Entry
pub mod Good
pub mod Kind
pub mod Calls
pub mod Label
pub mod Found
pub mod Theorems
