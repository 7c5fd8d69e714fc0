pub mod Fewest
pub mod ComputedOutput
pub mod Below
pub mod Told
pub mod Lengths
