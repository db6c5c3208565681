pub mod Anchors
pub mod Places
pub mod EndsRead
pub mod Tables
pub mod Answers
