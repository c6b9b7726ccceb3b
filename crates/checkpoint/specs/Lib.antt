-- The text of a stopped run.
pub mod CubeLines
pub mod SavedText
