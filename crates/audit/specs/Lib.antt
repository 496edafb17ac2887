-- What it is for a memory to be judged.
pub mod Judging
pub mod Owners
pub mod Contents
