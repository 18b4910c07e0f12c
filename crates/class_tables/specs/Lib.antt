-- Definitions: classes of trees in a lent store, and the cache over them.
pub mod Classes
pub mod Cache
