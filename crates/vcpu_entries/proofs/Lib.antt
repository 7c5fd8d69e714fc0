pub mod Sets
pub mod Told
pub mod Answered
pub mod Asked
pub mod Moves
