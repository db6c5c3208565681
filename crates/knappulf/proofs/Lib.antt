pub mod Quick
pub mod Segments
pub mod Shown
