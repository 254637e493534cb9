-- What the code holds, step by step.
pub mod Told
pub mod RequiredByte
pub mod Outcomes
pub mod Engine
pub mod Dfa
pub mod Searches
pub mod Links
pub mod Chains
pub mod StrictForm
pub mod Lenient
