pub mod Window
pub mod Input
pub mod Run
