pub mod Plains
pub mod Tells
