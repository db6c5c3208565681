pub mod Cut
pub mod Ends
pub mod Shape
pub mod End
pub mod Number
pub mod Sound
pub mod Writable
