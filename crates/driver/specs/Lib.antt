pub mod Driven
pub mod Paused
