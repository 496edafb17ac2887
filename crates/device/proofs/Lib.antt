-- Lemmas that every device may want.
pub mod Membership
pub mod Changes
pub mod Plans
