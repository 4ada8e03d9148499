pub mod Pushes
pub mod Texts
