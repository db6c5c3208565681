pub mod Reader
pub mod Events
pub mod Lent
