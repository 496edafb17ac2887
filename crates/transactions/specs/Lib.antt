-- What a store is, and what its calls answer and leave.
pub mod Fault
pub mod Parts
pub mod State
pub mod Rows
pub mod Calls
pub mod Steps
pub mod Truncation
pub mod Pages
pub mod Dirty
pub mod Held
pub mod Order
