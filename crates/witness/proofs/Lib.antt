pub mod Passed
pub mod Building
pub mod Writing
pub mod Space
pub mod Found
pub mod Right
pub mod Examples
