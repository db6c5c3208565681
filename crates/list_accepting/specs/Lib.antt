pub mod Accept
pub mod Plain
