-- What `run` promises.
pub mod Says
