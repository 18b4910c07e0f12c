-- Definitions: what the pass that links a node list knows of the trees read so far.
pub mod Placed
