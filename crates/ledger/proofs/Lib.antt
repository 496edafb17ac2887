-- Lemmas on the calls of a ledger.
pub mod Standing
pub mod Booking
pub mod Fresh
pub mod Opened
