-- Definitions: what judging answers, demand 2, and the sum of growths; for the code, the tables of leaves. Then the proofs.
pub mod Judged
pub mod Demand2
pub mod Grown
pub mod LeafTables
