-- Definitions: what the survey of a file answers, and what it leaves in the plan buffer; demand 3 of these. Then the proof.
pub mod Surveyed
pub mod Checked
pub mod Demand3
