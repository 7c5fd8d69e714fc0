pub mod Records
pub mod Notices
