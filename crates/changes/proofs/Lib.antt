-- Lemmas on the steps of a change.
pub mod Patches
pub mod Cells
