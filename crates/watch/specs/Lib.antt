-- Definitions: the walk and its log; refusals 20, 21, 22 and 13; what is answered and written; what W7 says of it in terms of runs; examples.
-- `Following` is for the code.
pub mod Walk
pub mod Checks
pub mod Watch
pub mod Promise
pub mod Following
pub mod Examples
