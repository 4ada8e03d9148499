-- What command lists mean: systems of processes, their moves, what a state needs, and the statements that are proved.
pub mod System
pub mod Words
pub mod Step
pub mod Space
pub mod Calm
pub mod Statements
pub mod Queue
