pub mod Range
pub mod Shape
pub mod Compile
pub mod Table
pub mod Map
pub mod Cut
pub mod Plain
