pub mod OwedLaws
pub mod SplitLaws
pub mod Unique
