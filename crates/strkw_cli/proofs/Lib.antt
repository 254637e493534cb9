mod FirstPlaces
pub mod AnswerCases
pub mod AnswerMeaning
pub mod LineLemmas
pub mod AnswerLemmas
pub mod OutcomeLemmas
pub mod BoundLemmas
pub mod RunLemmas
pub mod AnswerExistence
pub mod Asked
pub mod Sharing
pub mod Parts
pub mod Scalars
pub mod Verdicts
pub mod Begun
