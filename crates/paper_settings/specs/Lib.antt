pub mod Settings
pub mod Calls
pub mod Examples
