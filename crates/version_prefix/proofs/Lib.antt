pub mod Anchors
pub mod Prefixes
pub mod Matches
pub mod Bounds
pub mod Beginnings
pub mod Nexts
pub mod Labels
