-- Lemmas on plans.
pub mod Standing
pub mod Planning
pub mod Following
pub mod Shortness
pub mod Seeking
pub mod Fronts
pub mod Written
