pub mod Totals
pub mod StoreLaws
pub mod Growth
pub mod Numbers
pub mod Density
pub mod Blocks
pub mod Bounds
pub mod Callers
