pub mod PartLaws
pub mod WeighLaws
pub mod OpenLaws
pub mod PlanLaws
pub mod Unique
