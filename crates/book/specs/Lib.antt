-- What a ledger is, by the memory that holds it, and what its calls change in it.
pub mod Fault
pub mod Records
pub mod Laws
pub mod Layout
pub mod Heads
pub mod Book
pub mod Rows
pub mod Edits
pub mod Conserved
