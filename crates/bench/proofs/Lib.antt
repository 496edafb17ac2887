-- Why a write of a sector is what a device's write means.
pub mod Sectors
