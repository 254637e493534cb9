pub mod Formats
pub mod FormatLaws
