pub mod Stood
pub mod Timed
pub mod Used
pub mod TimedLaws
pub mod UsedLaws
pub mod Parts
