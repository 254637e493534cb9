pub mod Grammar
pub mod Lines
pub mod Marks
pub mod Records
pub mod Reading
pub mod machine
