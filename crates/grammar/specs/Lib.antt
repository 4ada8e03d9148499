-- The grammar of command lists, and a parser as a function that is proved to agree with it.
pub mod Tokens
pub mod Grammar
pub mod Parser
pub mod Statements
