-- Definitions: single automata, what single says of a file, and the same computed of compiled transitions.
pub mod Single
pub mod Singles
pub mod Determined
