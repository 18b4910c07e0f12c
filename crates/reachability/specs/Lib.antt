-- Definitions: the configurations that are reached, by node numbers; and what the words of states hold as the search goes on.
pub mod Reached
pub mod Growth
pub mod Searched
