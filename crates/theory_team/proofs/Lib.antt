pub mod Laws
pub mod SectionLaws
pub mod SomeLocksLaws
