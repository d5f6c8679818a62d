-- What a kind of polynomials shows, and what its product and its inverse keep.
pub mod Facts
pub mod Tables
pub mod Descent
