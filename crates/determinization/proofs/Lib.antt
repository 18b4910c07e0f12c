-- The laws of new classes.
pub mod Adding
pub mod Computing
