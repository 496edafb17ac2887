-- Lemmas on runs of a ledger.
pub mod Chains
pub mod Sectors
pub mod Entering
pub mod Memories
pub mod Books
pub mod Sums
pub mod Keeping
pub mod Changing
pub mod Making
pub mod Opening
pub mod Steps
pub mod Tracing
pub mod Playing
pub mod Working
