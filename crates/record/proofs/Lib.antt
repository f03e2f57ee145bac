pub mod FlawLaws
pub mod KindLaws
pub mod FoundLaws
pub mod StrayLaws
pub mod TidyLaws
pub mod Halves
pub mod Unique
