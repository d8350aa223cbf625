-- Lemmas on the definitions.
mod Parts
mod Steps
