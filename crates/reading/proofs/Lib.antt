-- Lemmas for the answers.
pub mod Told
