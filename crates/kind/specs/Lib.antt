-- Block kinds: what one is, and a buffer of bytes seen as blocks.
pub mod Laws
pub mod Inverses
pub mod Blocks
pub mod Rewritten
pub mod Polynomials
pub mod Cases
pub mod PolynomialsLemmas
