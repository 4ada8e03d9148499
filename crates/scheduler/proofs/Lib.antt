pub mod Opening
pub mod Rotation
pub mod Going
