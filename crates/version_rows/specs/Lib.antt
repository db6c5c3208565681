pub mod Row
pub mod Read
pub mod Normal
pub mod NormalPlain
