-- Definitions: the transitions of a list of rules, the automaton of a file, the compiled table; the rules with place 3 spread.
pub mod Transitions
pub mod Compiled
pub mod Spread
