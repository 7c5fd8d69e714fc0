pub mod Locals
