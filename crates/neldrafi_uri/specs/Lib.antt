pub mod Components
pub mod Resolution
pub mod machine
