-- What is proved of the runs of covered texts.
pub mod Statements
