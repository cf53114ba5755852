pub mod EditLaws
pub mod InsertCorrectLaws
pub mod NoNode
pub mod RemoveCorrectLaws
pub mod SpliceLaws
