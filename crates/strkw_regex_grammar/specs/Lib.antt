pub mod Numbers
pub mod Escapes
pub mod NullEscape
pub mod Codes
pub mod Classes
pub mod Names
pub mod Syntax
pub mod Regex
-- How the code reads and searches.
pub mod machine
