-- The coefficients by place.
pub mod Places
