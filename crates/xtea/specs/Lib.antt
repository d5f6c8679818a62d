-- XTEA by its published rule, and that its two maps undo one another.
pub mod Repeat
pub mod Xtea
pub mod Blocks
pub mod Undone
pub mod Repeated
pub mod XteaCipherLemmas
