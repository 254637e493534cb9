pub mod Results
pub mod Many
pub mod Steps
pub mod Whole
pub mod Meaning
pub mod Printable
pub mod Folding
pub mod Owned
