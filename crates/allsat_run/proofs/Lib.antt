pub mod CheckEnds
mod Crews
pub mod DrillEnds
pub mod Jobs
pub mod NoteLemmas
pub mod Resumed
pub mod Searches
pub mod Unread
pub mod WriteEnds
