pub mod Atoms
pub mod Contents
pub mod Values
