-- Lemmas on rings given as keys.
pub mod Eights
