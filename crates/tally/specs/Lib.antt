-- Definitions: the tally after one more outcome, the percent, what rounding that is, and a table of cases.
pub mod Tally
pub mod Rounding
pub mod PercentCases
