-- The stages of a sealing in three passes.
pub mod Stages
