-- The definitions that contracts on failures cite.
pub mod Printed
