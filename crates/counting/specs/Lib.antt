-- Definitions: the tally of answers that are written as numbers.
pub mod Counting
