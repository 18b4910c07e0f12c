-- Definitions: the engine's answers as numbers.
pub mod Numbers
