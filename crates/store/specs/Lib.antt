pub mod Sums
pub mod Dense
pub mod Layout
pub mod Held
pub mod Fields
