pub mod Rows
pub mod Plains
