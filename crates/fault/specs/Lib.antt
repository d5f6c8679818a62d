-- The definitions that contracts on refusals cite.
pub mod Faults
