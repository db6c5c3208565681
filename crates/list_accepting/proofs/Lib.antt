pub mod Anchors
pub mod Holding
pub mod Verdicts
pub mod PlainClauses
pub mod PlainHolding
pub mod Exactly
pub mod Unique
