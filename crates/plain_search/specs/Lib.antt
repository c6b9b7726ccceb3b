pub mod Walks
pub mod Searching
pub mod Steps
pub mod SmallSubjects
