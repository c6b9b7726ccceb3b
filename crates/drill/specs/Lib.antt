pub mod Drills
pub mod Summaries
