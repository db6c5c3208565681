pub mod Answers
pub mod Takes
pub mod Bytes
pub mod Lending
