pub mod Totals
pub mod Kept
pub mod Held
pub mod Entries
pub mod Known
pub mod Grown
pub mod Crossing
