-- The laws of the stack of words.
pub mod Stacks
pub mod Laws
