-- Lemmas on the walk.
pub mod Whole
