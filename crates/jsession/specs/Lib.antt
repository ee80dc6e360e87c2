pub mod Items
pub mod Script
pub mod Reads
pub mod Ran
pub mod Broke
pub mod Sessions
