-- How the code has components, paths and targets: what its contracts name, and what is proved from it.
pub mod Texts
pub mod Paths
pub mod Targets
