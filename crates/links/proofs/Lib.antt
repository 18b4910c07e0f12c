pub mod Numbering
pub mod Linking
pub mod Storing
pub mod Tabling
