pub mod Rules
pub mod Search
