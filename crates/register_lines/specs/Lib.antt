pub mod Line
pub mod Enter
pub mod Shelved
