-- Laws of declared runs and of the pieces that they are cut into.
pub mod Facts
pub mod Joining
pub mod Reaching
pub mod Copying
pub mod Cutting
pub mod Alone
pub mod Bounds
