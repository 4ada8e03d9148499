pub mod Parts
pub mod Answers
