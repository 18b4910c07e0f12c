-- Definitions: the grammar, the tree, and where a text goes wrong; the pushdown automaton by which that is computed; what the functions that read
-- answer; examples.
pub mod Grammar
pub mod Pushdown
pub mod Wrong
pub mod Reading
pub mod Examples
