pub mod Fields
pub mod Pair
