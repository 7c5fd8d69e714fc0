pub mod Marks
pub mod Searched
pub mod SearchedMarked
pub mod Turns
