pub mod Alike
pub mod Asked
pub mod Tried
pub mod Quiet
