pub mod Bonds
pub mod Fates
pub mod Fitting
pub mod Items
pub mod Parting
pub mod Undone
pub mod Valids
