pub mod Search
pub mod Marked
