pub mod Interchange
