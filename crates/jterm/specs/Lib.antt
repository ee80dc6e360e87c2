pub mod Speeches
pub mod Levels
pub mod Ranks
pub mod Obverses
pub mod Forms
pub mod Acts
pub mod Validity
