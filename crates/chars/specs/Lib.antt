pub mod Text
pub mod Class
pub mod Place
pub mod Same
pub mod Scan
pub mod Case
pub mod Words
pub mod Spelling
