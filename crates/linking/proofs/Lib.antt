-- The laws of the pass that links a node list.
pub mod Placing
pub mod Steps
