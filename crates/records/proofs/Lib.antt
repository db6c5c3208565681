pub mod Anchors
pub mod Reading
pub mod Writing
pub mod Readback
pub mod Exactly
