pub mod Admits
pub mod ByteWords
pub mod Asked
