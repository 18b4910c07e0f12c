-- What lent tables hold of an automaton, and what preparing a file leaves in them.
pub mod Tables
pub mod Ready
