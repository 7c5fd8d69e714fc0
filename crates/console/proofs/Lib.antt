pub mod Fills
pub mod Going
