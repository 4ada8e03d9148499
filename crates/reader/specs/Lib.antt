-- Reading: from a text to code.
pub use Rattle.code.specs.Layout
pub use Rattle.code.specs.Code
pub mod Reading
pub mod Aheads
pub mod Stages
pub mod Parsing
pub mod Answer
