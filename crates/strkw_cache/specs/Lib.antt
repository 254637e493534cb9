pub mod Depths
pub mod Tokens
pub mod Told
pub mod Fronts
pub mod Cached
