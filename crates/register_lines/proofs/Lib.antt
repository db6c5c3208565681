pub mod Anchors
pub mod Lines
pub mod Kept
pub mod Entering
pub mod Numbers
pub mod Filed
pub mod Shelves
pub mod Answers
