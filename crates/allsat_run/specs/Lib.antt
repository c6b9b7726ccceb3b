pub mod Checking
pub mod Crews
pub mod Drilling
pub mod Laws
pub mod Reading
pub mod Run
pub mod Searches
pub mod Status
