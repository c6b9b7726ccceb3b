pub mod Lists
pub mod Views
pub mod Moves
pub mod Turns
pub mod Made
pub mod Closing
