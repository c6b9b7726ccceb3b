mod Digits
pub mod Uses
pub mod Walks
pub mod Numbers
pub mod Takings
