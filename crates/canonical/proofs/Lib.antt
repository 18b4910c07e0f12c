pub mod Form
pub mod OneForm
pub mod Writing
