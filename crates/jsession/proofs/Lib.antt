pub mod Endings
pub mod Papers
pub mod Programs
pub mod Sessions
pub mod Pieces
