pub mod Rules
pub mod File
pub mod Payload
