-- Laws of the lexer.
pub mod WithBytes
pub mod Coding
pub mod Kept
pub mod Same
pub mod Lex
pub mod Runs
pub mod Next
pub mod Lexing
