pub mod DifferLaws
pub mod PairLaws
pub mod RefusalLaws
pub mod Computed
