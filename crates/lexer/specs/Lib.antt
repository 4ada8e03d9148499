-- Tokens, as values and kept as words.
pub mod Codes
pub mod Stored
pub mod Cuts
pub mod Written
