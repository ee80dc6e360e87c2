pub mod Deep
pub mod Making
pub mod Numbers
pub mod RanksOf
pub mod Undoing
pub mod Valid
