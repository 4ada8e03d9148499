pub mod Lists
pub mod Queue
pub mod Outcomes
