pub mod Sectors
pub mod Promise
pub mod Images
pub mod Parts
