pub mod Amends
pub mod Arrays
pub mod Boxes
pub mod Checking
pub mod Ending
pub mod Lasting
pub mod Replaced
