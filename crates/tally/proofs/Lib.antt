pub mod Counting
pub mod RoundingLaws
pub mod PercentCases
