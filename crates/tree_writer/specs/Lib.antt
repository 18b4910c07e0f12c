-- Definition: what it is that a tree's file reads back. proofs/Reading has the proof.
pub mod ReadsBack
