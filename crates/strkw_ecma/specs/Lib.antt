pub mod Laws
pub mod Lenient
-- How the code reads and searches.
pub mod machine
