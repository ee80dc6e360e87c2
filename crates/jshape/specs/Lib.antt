pub mod Agreement
pub mod Frames
