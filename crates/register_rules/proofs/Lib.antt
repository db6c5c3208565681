pub mod Anchors
pub mod Breaking
pub mod TwoLowest
pub mod Answers
pub mod Exactly
