pub mod Whitespace
pub mod Ecma
pub mod Literal
pub mod Search
pub mod Reading
pub mod Analysis
pub mod Engine
pub mod Matcher
