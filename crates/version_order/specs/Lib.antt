pub mod Key
pub mod Versions
pub mod Compared
