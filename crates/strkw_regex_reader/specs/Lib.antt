pub mod Patterns
pub mod Limits
pub mod Refusals
-- How the code reads.
pub mod machine
