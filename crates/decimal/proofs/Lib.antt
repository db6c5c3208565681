pub mod Values
pub mod Figures
pub mod Puts
