-- Definitions: what a call that writes a file answers, and what it leaves in the output.
pub mod Written
