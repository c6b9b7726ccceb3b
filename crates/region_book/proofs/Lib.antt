pub mod Arranging
mod Ascending
mod Begin
mod Booked
mod Found
mod Holders
pub mod Kept
mod Left
mod Live
mod Named
mod Numbers
pub mod Others
pub mod Owned
mod Paged
pub mod Prefixes
mod Rising
mod Script
mod Whole
