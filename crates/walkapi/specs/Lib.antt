-- The definitions that contracts of the exports on walks cite.
pub mod Codes
