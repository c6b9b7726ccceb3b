pub mod Lemmas
pub mod Marks
pub mod Walks
pub mod Lent
pub mod Laws
