-- What the proofs of several functions use.
pub mod Steps
pub mod Paths
pub mod Reached
pub mod Waiting
pub mod Signatures
pub mod Standing
pub mod Laws
pub mod Places
pub mod Scanning
