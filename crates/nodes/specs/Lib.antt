-- Definitions: trees in preorder, the node list, its reader and a pass over it.
pub mod Preorder
pub mod Nodes
pub mod Reader
pub mod Scan
