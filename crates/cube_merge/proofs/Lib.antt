mod Checked
mod Fronts
pub mod Gathered
mod Merged
mod Named
mod Ranks
