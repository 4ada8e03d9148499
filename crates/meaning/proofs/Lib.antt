pub mod Own
pub mod Core
pub mod Queue
pub mod Refuted
