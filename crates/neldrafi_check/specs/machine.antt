-- What only the code's own contracts name.
pub mod Cuts
pub mod Lines
pub mod Origins
pub mod Runs
pub mod Tables
