pub mod Matching
pub mod Views
pub mod Compared
pub mod Head
pub mod Run
pub mod Numbers
