pub mod Steps
pub mod Counts
pub mod Places
pub mod Bytes
pub mod Labels
pub mod Versions
pub mod Plains
