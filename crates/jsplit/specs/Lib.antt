pub mod Divisions
pub mod Fixes
pub mod Identities
pub mod Undoing
