-- What only the code's own contracts name.
pub mod Scans
pub mod Spans
pub mod Faults
pub mod Inputs
pub mod Readers
