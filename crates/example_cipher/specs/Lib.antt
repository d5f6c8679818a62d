-- The example's two maps.
pub mod Turning
pub mod Turns
