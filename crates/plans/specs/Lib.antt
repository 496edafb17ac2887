-- What a look at the memory of a ledger plans.
pub mod Plans
pub mod Walks
pub mod Putting
