-- The rules agree with the scheme, the checks, there and back with the one dead tweak, and what a card needs.
pub mod Agree
pub mod Checks
pub mod Lawfuls
pub mod Trips
