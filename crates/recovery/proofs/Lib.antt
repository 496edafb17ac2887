-- Lemmas on making and opening a log.
pub mod Zeroing
pub mod Homes
pub mod Replaying
pub mod Strays
pub mod Rebuilding
