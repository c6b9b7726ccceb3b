pub mod Balance
pub mod Pools
pub mod Visits
