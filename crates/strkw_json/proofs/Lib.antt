pub mod Reading
pub mod Passing
pub mod FirstTokens
pub mod Built
