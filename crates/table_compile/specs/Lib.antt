pub mod Body
pub mod Said
pub mod Compiled
