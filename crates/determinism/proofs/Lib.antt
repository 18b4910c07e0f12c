pub mod Each
pub mod Determinism
pub mod RepeatedRecords
