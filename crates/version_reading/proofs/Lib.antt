pub mod Anchors
pub mod Labels
pub mod Wholes
pub mod Plains
pub mod PlainRead
pub mod Segments
pub mod Values
