pub mod Anchors
pub mod Orders
pub mod Keys
