-- Definitions: classes of bytes; tags, and the nodes that they stand for.
pub mod Classes
pub mod Tags
