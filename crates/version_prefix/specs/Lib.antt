pub mod Prefix
pub mod Next
