pub mod Answers
pub mod Agrees
pub mod Inputs
