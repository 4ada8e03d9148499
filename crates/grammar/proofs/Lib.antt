pub mod Fit
pub mod Find
pub mod Both
