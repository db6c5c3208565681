pub mod Anchors
pub mod Fronts
pub mod Reading
pub mod Texts
pub mod Runs
