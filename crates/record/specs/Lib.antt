pub mod Flaw
pub mod Kinds
pub mod Tidy
