pub mod Fetched
pub mod Jobs
pub mod Laws
pub mod Sweeps
pub mod Workers
