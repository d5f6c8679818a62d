-- The definitions that contracts on the card image cite.
pub mod Checks
pub mod Layout
pub mod Entries
