-- The steps of the inverse.
pub mod Descents
