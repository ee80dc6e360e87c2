pub mod Folded
pub mod Running
