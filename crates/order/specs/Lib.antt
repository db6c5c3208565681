pub mod All
pub mod Ordering
pub mod Compare
pub mod Laws
pub mod Preorder
pub mod Answer
