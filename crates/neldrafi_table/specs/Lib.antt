pub mod Keywords
pub mod Columns
pub mod Fields
pub mod Objects
pub mod Reading
pub mod Headers
