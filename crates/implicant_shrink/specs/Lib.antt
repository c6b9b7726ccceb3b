pub mod Levels
pub mod Shrinking
