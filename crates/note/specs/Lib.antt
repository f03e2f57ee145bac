pub mod Note
pub mod Part
pub mod Noted
pub mod Plain
pub mod Told
