pub mod Bodies
pub mod Writing
pub mod Sizes
pub mod Compiling
