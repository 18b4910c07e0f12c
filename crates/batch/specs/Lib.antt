-- The definitions of a batch, of a list of bytes, and its answers.
pub mod Batch
pub mod Answers
