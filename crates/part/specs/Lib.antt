pub mod Like
pub mod Part
