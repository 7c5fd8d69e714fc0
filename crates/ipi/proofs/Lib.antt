pub mod Masks
pub mod Marks
pub mod Singles
