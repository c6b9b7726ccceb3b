pub mod LineLaws
pub mod NumberLaws
pub mod NumeralSteps
pub mod ReadingSteps
pub mod SeenSteps
pub mod TokenLaws
