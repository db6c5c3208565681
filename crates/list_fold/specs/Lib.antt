pub mod Row
pub mod Ranges
pub mod Numbered
pub mod Folded
