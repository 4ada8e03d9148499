pub mod WordLaws
pub mod Table
pub mod Upto
pub mod SegmentLaws
pub mod Entries
pub mod Placed
pub mod Views
pub mod Moves
