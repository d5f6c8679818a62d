-- The leading zeros of two words, and the bytes of the two kinds written out.
pub mod Zeros
pub mod Octets
