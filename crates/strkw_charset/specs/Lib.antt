pub mod Membership
pub mod BinaryNames
pub mod Properties
pub mod Sets
-- How the code reads and searches.
pub mod machine
