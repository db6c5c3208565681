pub mod Kind
pub mod Body
pub mod Table
pub mod WellFormed
pub mod Lookup
pub mod Text
