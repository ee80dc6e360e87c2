pub mod Turning
pub mod Again
pub mod Passes
pub mod Crossing
