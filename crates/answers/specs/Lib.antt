pub mod Refusal
pub mod Printed
pub mod YesNo
