pub mod Counts
pub mod Places
pub mod Amiss
pub mod Visits
pub mod Bits
pub mod Ends
pub mod Turns
pub mod Reasons
