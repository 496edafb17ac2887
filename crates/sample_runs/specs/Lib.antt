-- Runs that the laws speak of.
pub mod Store
pub mod Ledger
