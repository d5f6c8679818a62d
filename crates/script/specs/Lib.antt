-- The definitions that contracts on scripts cite.
pub mod Hex
pub mod Names
pub mod Sizes
pub mod Told
