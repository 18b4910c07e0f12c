-- Definitions: the transition that an automaton makes, and where it leads from a node, by numbers; whether some transition leads from one node to
-- another.
pub mod Choices
pub mod Successors
pub mod Leads
