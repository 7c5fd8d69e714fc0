pub mod InRow
pub mod Served
pub mod Sized
