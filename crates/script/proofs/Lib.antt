-- Lemmas on hexadecimal digits.
pub mod Pairs
