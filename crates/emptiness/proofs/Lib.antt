pub mod Planning
pub mod Proved
