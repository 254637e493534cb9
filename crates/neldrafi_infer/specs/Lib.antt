pub mod Kinds
pub mod Hypotheses
pub mod Tallies
pub mod Words
pub mod Properties
pub mod Proposals
pub mod Shapes
