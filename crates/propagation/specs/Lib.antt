pub mod Steps
pub mod Laws
pub mod Settled
pub mod Derived
pub mod Walking
