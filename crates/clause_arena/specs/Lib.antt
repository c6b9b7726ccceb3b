pub mod Clauses
pub mod Layout
pub mod Once
