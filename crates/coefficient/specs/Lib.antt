-- The mask coefficients by place.
pub mod Coefficients
