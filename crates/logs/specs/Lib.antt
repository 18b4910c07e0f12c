-- Definitions: how many entries from the start of a log are a run; refusal 23; what is answered; what W8 says of it in terms of runs; examples.
-- `Counting` is for the code.
pub mod Prefix
pub mod Checks
pub mod Compare
pub mod Promise
pub mod Counting
pub mod Examples
