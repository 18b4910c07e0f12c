-- Definitions: what the pass by classes keeps on its stack, and what it finds.
pub mod Told
pub mod Steps
