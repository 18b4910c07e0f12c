-- The board of document 01: its files, and the table of its rows (a) to (k), with what each says. proofs/Right has the proof over the rows.
pub mod Files
pub mod Board
