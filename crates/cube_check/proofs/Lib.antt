pub mod Apartness
pub mod Marking
pub mod Missing
pub mod OneVerdict
pub mod Passing
pub mod Sound
