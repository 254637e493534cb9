pub mod Rfc4648
pub mod Tables
pub mod Groups
pub mod Blocks
pub mod MediaTypes
pub mod Names
pub mod Laws
pub mod DecodeTexts
