pub mod Kept
pub mod Least
pub mod Tried
pub mod Rising
pub mod Flips
