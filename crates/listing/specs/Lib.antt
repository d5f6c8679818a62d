-- The definitions that contracts on the manifest's lines cite.
pub mod Lines
