pub mod Follows
pub mod Members
