pub mod Words
pub mod Growing
pub mod Imaging
pub mod Turning
pub mod Ending
pub mod Meaning
