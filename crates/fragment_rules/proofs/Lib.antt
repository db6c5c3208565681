pub mod Anchors
pub mod Lumps
pub mod Cuts
pub mod Kept
pub mod Lending
