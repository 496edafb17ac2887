-- The memory of a store, and which of its bytes are declared.
pub mod Runs
pub mod Stretch
pub mod Cut
pub mod Calls
