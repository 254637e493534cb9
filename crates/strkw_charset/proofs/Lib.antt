pub mod ToldSets
pub mod Lists
pub mod Booleans
pub mod Bytes
pub mod Named
pub mod ScriptLists
pub mod RunEnds
pub mod Paged
