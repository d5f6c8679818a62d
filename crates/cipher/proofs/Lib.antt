-- Lemmas: sums that cancel, maps on bytes as maps on blocks, and maps with an inverse.
pub mod Through
pub mod Permuting
