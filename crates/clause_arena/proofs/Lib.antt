pub mod Kept
pub mod Laid
pub mod Literals
pub mod Making
pub mod Marks
pub mod Pieces
pub mod Meaning
pub mod Short
