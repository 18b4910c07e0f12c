-- Definitions: the nodes of a tree by number, their links, and what it is that these are the model's positions. proofs/ has the laws;
-- `Tables` is for the code.
pub mod Numbers
pub mod Links
pub mod Linked
pub mod Tables
