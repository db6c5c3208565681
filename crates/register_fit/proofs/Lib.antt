pub mod Keeping
pub mod Searching
pub mod Fitting
pub mod Whole
