pub mod Table
pub mod Classed
pub mod ClassLaws
pub mod Listed
