mod Fronts
pub mod Handing
mod Telling
mod Texts
