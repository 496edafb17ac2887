-- What a write cache holds, what it shows, and what it does in each call.
pub mod Ring
pub mod Held
pub mod State
pub mod Exact
pub mod Steps
