-- Lemmas on the store.
pub mod Loops
pub mod Plans
pub mod Flagging
pub mod Sets
pub mod Truncating
pub mod Fitting
pub mod Appending
pub mod Noting
pub mod Tabling
pub mod Lying
pub mod Ruling
pub mod Resting
pub mod Ordered
pub mod Faults
