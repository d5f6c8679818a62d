-- The laws of the polynomial kinds, and buffers as blocks.
pub mod Overs
pub mod Buffers
pub mod Walks
pub mod Inverses
pub mod Cases
