pub mod Anchors
pub mod Answers
pub mod Gathers
pub mod Agrees
pub mod Inputs
