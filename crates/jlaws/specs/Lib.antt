pub mod Quiet
pub mod Tests
