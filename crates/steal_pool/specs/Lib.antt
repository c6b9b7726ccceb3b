pub mod Benches
pub mod Rule
pub mod Stealing
