-- The definitions that contracts of the exports on cards cite.
pub mod Rings
pub mod Cards
