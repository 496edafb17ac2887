-- The crash-safety law of stores.
pub mod Transactions
pub mod Kept
pub mod Events
pub mod Law
pub mod Run
pub mod Deeds
