pub mod Pass
pub mod Turned
pub mod Steps
pub mod Laws
