-- The definition of judging many files.
pub mod All
