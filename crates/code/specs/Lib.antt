-- What stands in the words of a text's code.
pub mod Tags
pub mod Chains
pub mod Cells
pub mod Layout
pub mod Code
