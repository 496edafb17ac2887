-- The law over every run of a ledger.
pub mod Below
pub mod Events
pub mod Law
pub mod Run
pub mod Deeds
pub mod Whole
