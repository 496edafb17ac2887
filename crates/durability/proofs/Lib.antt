-- Lemmas on a log that power fails in.
pub mod Writes
pub mod Opening
pub mod Ring
pub mod Searches
pub mod Bytes
pub mod Carried
pub mod Growth
pub mod Grown
pub mod Appends
pub mod Fresh
pub mod Homings
pub mod Clearings
pub mod Marks
