pub mod Operator
pub mod Trim
pub mod Clause
pub mod Step
pub mod Commas
pub mod List
pub mod Refusals
