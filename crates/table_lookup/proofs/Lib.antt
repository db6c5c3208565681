pub mod Compared
pub mod Bodies
pub mod Rising
pub mod Searching
pub mod Lookups
