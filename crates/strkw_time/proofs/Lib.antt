pub mod Durations
pub mod Dates
pub mod Times
pub mod Words
pub mod Windows
pub mod Examples
pub mod Calendar
