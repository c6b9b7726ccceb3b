pub mod CubeLemmas
pub mod Disjoint
pub mod Inside
pub mod Keys
pub mod Machine
pub mod Once
pub mod Stamps
pub mod Variables
