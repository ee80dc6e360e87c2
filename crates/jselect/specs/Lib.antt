pub mod Arguments
pub mod Copies
pub mod From
pub mod Items
pub mod Listing
pub mod Picking
pub mod Places
pub mod Views
