-- What judging by classes tells of a tree's file.
pub mod Verdicts
