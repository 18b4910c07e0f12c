-- The laws of judging many files.
pub mod Laws
pub mod Eachwise
