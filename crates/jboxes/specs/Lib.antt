pub mod Dyads
pub mod Monads
pub mod Worded
