pub mod Clear
pub mod Takes
