-- The laws of classes and of the cache.
pub mod Laws
pub mod Keeping
pub mod Empty
