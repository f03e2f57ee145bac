pub mod Standing
pub mod Place
pub mod Rest
