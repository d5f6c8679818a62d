-- Lemmas that the crates above use too.
pub mod Lawful
pub mod Records
pub mod Views
pub mod Steps
pub mod Opens
pub mod Outcomes
