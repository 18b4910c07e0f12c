-- Definitions: the tree of a text and refusals 18, 19, 4 and 12; what is answered and written; what W6 says of it in terms of the grammar.
pub mod Checks
pub mod Written
pub mod Promise
