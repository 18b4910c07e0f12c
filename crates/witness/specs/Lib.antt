-- Definitions: a plan as bytes, its tree, and refusals 15 and 16; what is answered and written; what W1 says of trees and runs.
pub mod Plan
pub mod Sound
pub mod Written
pub mod Promise
