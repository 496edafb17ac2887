-- What the calls of a ledger do to the store below.
pub mod Sound
pub mod Held
pub mod Calls
pub mod Steps
