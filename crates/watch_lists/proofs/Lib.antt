pub mod AllLists
pub mod OneList
pub mod Places
pub mod Pushing
pub mod Seen
pub mod Unlinking
pub mod Walks
pub mod Watching
