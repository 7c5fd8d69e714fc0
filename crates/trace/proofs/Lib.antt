pub mod Text
pub mod Digits
pub mod Cells
pub mod Listing
pub mod Names
pub mod Events
pub mod ReadBack
pub mod ComputedLines
