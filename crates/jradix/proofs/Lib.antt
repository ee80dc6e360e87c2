pub mod LastFirst
pub mod Steps
pub mod Values
pub mod Widths
