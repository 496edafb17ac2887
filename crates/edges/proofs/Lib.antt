-- Lemmas on the worked edges.
pub mod Sizes
pub mod Ranges
pub mod Room
pub mod Gaps
pub mod Samples
pub mod Books
pub mod Fifteen
