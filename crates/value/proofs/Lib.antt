pub mod TreeLaws
pub mod MemberLaws
pub mod AnswerLaws
pub mod Unique
