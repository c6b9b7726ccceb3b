pub mod Filling
pub mod Lowest
pub mod Moving
pub mod Variables
