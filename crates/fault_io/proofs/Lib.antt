pub mod Appends
pub mod Consumes
pub mod FinishedAfter
pub mod Giving
pub mod Taking
mod Moves
