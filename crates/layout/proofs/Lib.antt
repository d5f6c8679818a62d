-- Lemmas that the crates above use too.
pub mod Bytes
pub mod Parts
pub mod Verdicts
pub mod Cuts
