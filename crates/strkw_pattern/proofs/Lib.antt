mod Clear
pub mod Items
pub mod Runs
pub mod Alternatives
pub mod Analyses
pub mod Decision
pub mod Texts
pub mod Trees
pub mod Matching
pub mod Searches
pub mod Examples
