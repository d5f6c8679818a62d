-- Definitions that the ciphers share.
pub mod Bytes
pub mod Permutes
pub mod Sums
