pub mod Solos
pub mod Telling
