-- Rows of blocks, what runs along with them, and the one scheme that the code of every pass follows.
pub mod Rows
pub mod Running
pub mod Scheme
pub mod Changed
