pub mod OfLevels
