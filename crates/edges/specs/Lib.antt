-- The worked edges.
pub mod Sizes
pub mod Ranges
pub mod Room
pub mod Gaps
pub mod Books
pub mod Worked
