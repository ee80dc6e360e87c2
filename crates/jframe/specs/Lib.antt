pub mod Alike
pub mod Assembly
pub mod Blocks
pub mod Cells
pub mod Joining
pub mod Kept
pub mod Padding
pub mod Ranks
