pub mod Differ
pub mod Apart
pub mod Refusals
pub mod Calls
pub mod Examples
