pub mod StillLaws
pub mod KeysLaws
pub mod SoughtLaws
pub mod KeepLaws
pub mod Unique
