-- Lemmas for the calls.
mod Fronts
