-- A change of the book as one transaction of the store.
pub mod Changes
pub mod Steps
