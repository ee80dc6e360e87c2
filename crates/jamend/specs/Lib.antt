pub mod Amended
pub mod Naming
pub mod Replacing
