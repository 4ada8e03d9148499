-- The part of the core that is run.
pub mod Slice
pub mod Says
