pub mod Refusals
pub mod Judged
pub mod Due
pub mod Look
