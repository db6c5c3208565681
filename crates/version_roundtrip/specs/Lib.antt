pub mod Text
pub mod Readable
