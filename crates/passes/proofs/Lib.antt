-- The scheme: its algebra, its coefficients, the round trip, and the walks that make it.
pub mod Algebra
pub mod Coefficients
pub mod Counts
pub mod RoundTrip
pub mod Walked
