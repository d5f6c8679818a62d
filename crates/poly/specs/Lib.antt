-- The elements of the two kinds, by their numbers.
pub mod Shorts
pub mod Wides
