-- Lemmas on the log.
pub mod Overlay
pub mod Places
pub mod Running
pub mod Tables
pub mod Telling
pub mod Unique
