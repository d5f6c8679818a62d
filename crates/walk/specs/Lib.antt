-- The definitions that contracts on the walk cite.
pub mod Contents
pub mod Walks
