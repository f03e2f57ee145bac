pub mod Orderly
pub mod SeparateLaws
pub mod BatchLaws
pub mod UnfitLaws
pub mod AloneLaws
pub mod Computed
