pub mod Crossing
pub mod Writes
