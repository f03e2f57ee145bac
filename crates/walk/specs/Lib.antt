pub mod Listed
pub mod Stays
pub mod Walked
pub mod Lone
pub mod Spread
pub mod Numbers
