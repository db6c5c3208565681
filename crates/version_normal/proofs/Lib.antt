pub mod Joins
pub mod Texts
