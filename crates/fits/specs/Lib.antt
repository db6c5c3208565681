pub mod Answer
pub mod Gather
