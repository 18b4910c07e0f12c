pub mod Trying
pub mod Skipping
pub mod Rounds
