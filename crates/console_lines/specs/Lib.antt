pub mod Numerals
pub mod Lines
pub mod Room
pub mod WorkedOutput
