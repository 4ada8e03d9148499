pub mod Encoding
pub mod Pushed
pub mod Paper
