mod Choices
pub mod Fixed
pub mod Good
pub mod Subjects
