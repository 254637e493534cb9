pub mod Json
pub mod Passing
pub mod ErrorTexts
