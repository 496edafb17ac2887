-- Lemmas on numbers in bytes and on rules, and the laws for the layers above.
pub mod Numbers
mod Rules
mod Again
mod Prefix
mod Finding
pub mod Laws
