-- Lemmas on one call of a list and on the list.
mod Making
mod Running
