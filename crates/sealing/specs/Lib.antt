-- The mode and its promises, and what a card needs of it.
pub mod Mode
pub mod Texts
