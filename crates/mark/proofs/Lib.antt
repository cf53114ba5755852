pub mod Blanks
pub mod Further
pub mod JoiningLaws
pub mod Rising
pub mod Searching
