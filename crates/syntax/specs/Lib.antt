-- Command trees: what a text of commands is once it has been read.
pub mod Base
pub mod Tree
pub mod Stage
pub mod Depth
pub mod Statements
