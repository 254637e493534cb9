pub mod Compiled
pub mod Printable
pub mod Values
