pub mod Bytes
pub mod Numbers
pub mod Words
pub mod Pages
pub mod Lists
pub mod Lines
pub mod WorkedLines
