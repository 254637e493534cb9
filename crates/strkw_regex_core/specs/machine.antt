-- What the code holds, step by step.
pub mod MarkedPattern
pub mod MarkedMeaning
pub mod Times
pub mod Expansion
pub mod Mirror
pub mod EquivalentPatterns
pub mod Boundaries
pub mod Positions
pub mod Shape
pub mod Sizes
pub mod Fronts
pub mod Sight
pub mod Program
pub mod OneCharLookahead
pub mod ProgramSteps
pub mod LeadingLookahead
