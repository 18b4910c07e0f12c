-- Definitions: the stack of a pass over a node list, what it tells of the list, and what the pass tells of the tree.
pub mod Told
pub mod Held
pub mod Stacked
pub mod Verdicts
