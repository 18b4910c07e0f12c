pub mod Unambiguous
pub mod Heights
pub mod Checked
pub mod Right
pub mod ElementText
