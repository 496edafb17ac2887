-- What a device is, to the code above it.
pub mod Fault
pub mod Disk
pub mod Meaning
pub mod Trace
