-- The laws of indices.
pub mod Sharing
