pub mod Parse
pub mod Digits
pub mod Put
