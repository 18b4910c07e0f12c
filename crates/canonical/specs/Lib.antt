-- Definitions: an automaton's file in its one form, what is answered and written; what W4 says of it.
pub mod Canonical
pub mod Promise
