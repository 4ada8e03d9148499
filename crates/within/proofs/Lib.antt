pub mod Covered
pub mod Expands
pub mod Steps
pub mod Moves
pub mod Forms
