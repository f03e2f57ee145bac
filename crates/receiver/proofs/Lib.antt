pub mod StepLaws
pub mod Unique
