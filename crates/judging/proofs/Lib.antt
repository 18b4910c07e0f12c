-- The laws of judging by classes.
pub mod Laws
