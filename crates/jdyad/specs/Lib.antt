pub mod Atoms
pub mod Dyads
