-- The definitions of FIPS 197 up to the steps of a round.
pub mod Field
pub mod Sbox
pub mod Steps
