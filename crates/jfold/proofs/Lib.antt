pub mod Backward
pub mod Forward
pub mod Laws
pub mod Steps
pub mod Truths
pub mod Verbs
