-- What a mirror is, over its two sides.
pub mod Sides
pub mod View
