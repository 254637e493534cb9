pub mod Tree
pub mod Meaning
pub mod Matchers
pub mod Mirror
pub mod Near
pub mod Size
pub mod WholeSize
-- How the code reads and searches.
pub mod machine
