-- The bytes of a listing, and what a buffered writer has handed in.
pub mod Buffered
pub mod Fronts
pub mod Laws
pub mod Lines
pub mod Listing
