pub mod Items
pub mod Tables
pub mod Trails
pub mod Clauses
pub mod Pictures
pub mod Laws
pub mod Reasons
