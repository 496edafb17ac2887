-- What making and opening a log answers and leaves.
pub mod Fault
pub mod Format
pub mod Writing
pub mod Reading
pub mod Clearing
pub mod Opening
