pub mod Arrays
pub mod Matches
pub mod Numbers
pub mod Placed
