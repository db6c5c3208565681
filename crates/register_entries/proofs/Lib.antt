pub mod Lending
pub mod Firsts
pub mod Holding
pub mod Numbered
