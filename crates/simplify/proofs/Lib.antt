pub mod Running
pub mod Calling
pub mod Unique
pub mod Demanded
