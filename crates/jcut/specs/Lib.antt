pub mod Cut
pub mod Frets
pub mod Grouped
pub mod Kept
pub mod Key
pub mod Parted
pub mod Picks
pub mod Runs
