-- The definitions that contracts of the exports on elements cite.
pub mod Elements
