-- Definitions: a header and rules that pass the table, and what it is that their file reads back. proofs/Reading has the proof.
pub mod ReadsBack
