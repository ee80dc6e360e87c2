pub mod Making
pub mod Turning
pub mod Executing
pub mod Stages
pub mod Lines
pub mod Kernels
pub mod Reading
pub mod Splitting
pub mod Quoted
pub mod Makings
mod Celling
pub mod Directly
pub mod Scanning
