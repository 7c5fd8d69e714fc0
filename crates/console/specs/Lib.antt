pub mod Filling
pub mod Sessions
