pub mod Classes
pub mod Prepared
