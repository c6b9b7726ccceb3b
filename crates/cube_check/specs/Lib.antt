pub mod Laws
pub mod Marks
pub mod Misses
pub mod Runs
pub mod VerdictTexts
pub mod Verdicts
