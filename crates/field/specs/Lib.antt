-- The mathematics of the block kinds, on numbers.
pub mod Field
pub mod Degree
pub mod Mask
pub mod Laws
pub mod Bytes
pub mod Window
