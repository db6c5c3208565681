pub mod Small
pub mod Fitted
pub mod Beside
pub mod Worded
