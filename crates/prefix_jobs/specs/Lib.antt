pub mod Examples
pub mod Laws
pub mod Lemmas
pub mod Numbers
pub mod Outcomes
