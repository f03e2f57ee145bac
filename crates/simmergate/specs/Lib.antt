pub mod Release
pub mod Calls
