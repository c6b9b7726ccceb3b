mod Examples
pub mod Joined
pub mod Order
pub mod Space
pub mod Whole
