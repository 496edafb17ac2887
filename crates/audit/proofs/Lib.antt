-- Lemmas on what stands in a memory.
pub mod Numbers
pub mod Standing
pub mod Sums
pub mod Walks
pub mod Marking
pub mod Owning
pub mod Reading
pub mod Books
pub mod Gathering
pub mod Knowing
pub mod Whole
