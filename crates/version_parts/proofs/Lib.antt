pub mod Ended
pub mod AtPlaces
pub mod Heads
pub mod Suffixes
pub mod Joined
