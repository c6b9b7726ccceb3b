pub mod Linked
pub mod Nodes
pub mod Places
pub mod Views
pub mod Watching
