pub mod Alike
pub mod Bounds
pub mod Fretting
pub mod Grouping
pub mod Making
pub mod Pieced
pub mod Stepping
