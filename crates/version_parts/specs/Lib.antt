pub mod Fields
pub mod Places
pub mod Head
pub mod Suffix
