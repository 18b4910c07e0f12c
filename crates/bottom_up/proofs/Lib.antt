-- The laws of the pass.
pub mod Loading
pub mod Ending
