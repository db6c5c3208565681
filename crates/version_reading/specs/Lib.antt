pub mod Label
pub mod Reading
pub mod Plain
pub mod Segment
pub mod Value
