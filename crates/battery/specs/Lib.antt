-- What a battery memory holds, and what each call does to it.
pub mod Memory
