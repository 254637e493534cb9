-- What only the code's own contracts name.
pub mod Kept
pub mod Marks
pub mod Tokens
pub mod Walks
