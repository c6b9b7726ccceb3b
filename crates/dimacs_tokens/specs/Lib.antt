pub mod Bytes
pub mod Cuts
pub mod Laws
pub mod Numbers
pub mod Reading
pub mod Seen
pub mod Texts
