pub mod Passed
pub mod Bytes
pub mod Records
