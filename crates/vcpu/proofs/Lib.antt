pub mod Told
pub mod Stores
pub mod Sent
pub mod Lift
pub mod Steps
pub mod Turns
