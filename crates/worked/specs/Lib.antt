-- Small texts and what they give.
pub mod Examples
