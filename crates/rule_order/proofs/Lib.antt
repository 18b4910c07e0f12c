pub mod Writing
pub mod Members
pub mod Ordering
pub mod Listing
