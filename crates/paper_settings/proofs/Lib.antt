pub mod SlotLaws
pub mod SettingsLaws
pub mod SettingsUpgrade
pub mod SettingsRefusals
pub mod SettingsBytes
pub mod Computed
