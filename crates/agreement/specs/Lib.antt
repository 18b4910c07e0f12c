-- Definitions: the part of two logs in which they agree, and what it is in words.
pub mod Common
pub mod Longest
