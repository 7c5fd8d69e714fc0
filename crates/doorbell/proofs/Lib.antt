pub mod Bytes
pub mod ClearLaws
pub mod Notice
