pub mod Reading
pub mod Compiling
pub mod Telling
pub mod Asking
pub mod Ahead
