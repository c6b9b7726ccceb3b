pub mod Mailed
pub mod Offers
pub mod Places
