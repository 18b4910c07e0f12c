-- Proofs; demands 2 and 3 are in Theorems.
pub mod Tests
pub mod Alphabets
pub mod OverloopLaws
pub mod Recognized
pub mod Growth
pub mod Grown
pub mod FormedSets
pub mod LeastSets
pub mod Theorems
