pub mod Adds
pub mod Joins
pub mod Left
pub mod Marked
pub mod NoticeLaws
pub mod PagesLaws
pub mod Steps
