pub mod AnswerLaws
pub mod MoreEdgesLaws
pub mod SizeLaws
