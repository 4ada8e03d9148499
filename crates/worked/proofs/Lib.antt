pub mod Schedule
pub mod Run
