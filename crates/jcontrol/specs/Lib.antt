pub mod Program
pub mod Block
pub mod Meaning
pub mod Machine
pub mod Laid
pub mod Rounds
