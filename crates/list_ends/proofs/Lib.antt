pub mod Anchors
pub mod Given
pub mod Nexts
pub mod Meanings
pub mod Sounds
pub mod Tables
pub mod Writables
pub mod Written
