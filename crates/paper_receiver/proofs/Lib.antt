pub mod PieceLaws
pub mod ReceiverLaws
pub mod CallLaws
pub mod Computed
