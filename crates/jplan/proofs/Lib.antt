mod Parting
pub mod Going
mod Whole
mod Repeated
