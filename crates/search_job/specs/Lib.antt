pub mod Give
pub mod Laws
pub mod Open
pub mod Reasons
pub mod Same
pub mod Stuck
pub mod Weights
pub mod Working
