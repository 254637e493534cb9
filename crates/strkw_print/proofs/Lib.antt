pub mod Notes
pub mod Errors
