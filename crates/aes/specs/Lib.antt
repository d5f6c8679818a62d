-- The key expansion and the cipher of FIPS 197, and that the two ciphers undo one another.
pub mod Keys
pub mod Cipher
pub mod Blocks
pub mod Undone
pub mod AesCipherLemmas
