-- About lists, and about runs.
pub mod ListLaws
pub mod Positions
pub mod RunLaws
pub mod Loops
pub mod FromParts
pub mod Deterministic
pub mod OverloopLaws
pub mod Escape
pub mod Example
-- About the sets of the paper's Algorithm 3, and their form over the escaped automaton.
pub mod Inside
pub mod ThreeSets
-- About the saturation.
pub mod Witnesses
pub mod Recognition
pub mod CountingLaws
pub mod Round
pub mod Rows
pub mod Verdicts
pub mod Correct
pub mod Turns
pub mod FreshRows
pub mod SaturationExample
