-- Definitions: rules in rising order, each once; and what the code goes through, the rules in a compiled table.
pub mod Order
pub mod Listed
