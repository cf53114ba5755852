pub mod Splicing
pub mod CheckLaws
pub mod AskLaws
pub mod CommitLaws
pub mod RemoveLaws
