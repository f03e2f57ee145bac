pub mod Receiver
pub mod Calls
pub mod Examples
