-- Places in a text, and where it comes from.
pub mod Places
pub mod Sources
