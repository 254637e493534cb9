pub mod Cuts
pub mod Dots
pub mod Merging
