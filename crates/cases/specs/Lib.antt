-- The worked cases.
pub mod Cases
