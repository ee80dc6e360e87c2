pub mod Comparing
pub mod Filling
pub mod Verbs
pub mod Wholes
