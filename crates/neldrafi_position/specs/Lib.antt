pub mod Parts
pub mod Places
pub mod Positions
pub mod machine
