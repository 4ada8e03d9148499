pub mod Words
pub mod Table
pub mod Layout
pub mod Fields
