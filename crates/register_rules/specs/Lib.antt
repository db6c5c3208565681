pub mod Lowest
pub mod Guilt
pub mod Fit
pub mod Cases
