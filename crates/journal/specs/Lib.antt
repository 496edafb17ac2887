-- The log of a device, seen by serial, and what an opening makes of it.
pub mod Log
pub mod Memory
pub mod Notes
pub mod Opening
pub mod Pages
pub mod Survey
