-- Why two sides worked in turn are one device.
pub mod Merging
pub mod Working
