pub mod Troubles
pub mod Pieces
pub mod Boxes
pub mod Rows
pub mod Format
pub mod Single
