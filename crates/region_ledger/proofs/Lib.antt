mod Closing
pub mod Holdings
mod Turns
