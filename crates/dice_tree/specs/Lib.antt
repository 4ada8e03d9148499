-- Words of the contracts.
pub mod Wildcards
