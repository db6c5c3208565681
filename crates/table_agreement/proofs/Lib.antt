pub mod Reread
pub mod Agreement
pub mod Sizes
pub mod Known
