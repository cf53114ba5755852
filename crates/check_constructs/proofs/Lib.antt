pub mod Ancestors
pub mod KindLaws
pub mod StrayLaws
pub mod Table
