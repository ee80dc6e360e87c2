pub mod Bases
pub mod Digits
