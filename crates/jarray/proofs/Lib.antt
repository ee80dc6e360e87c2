pub mod Atoms
pub mod Equality
