-- What the code holds, step by step.
pub mod Instructions
pub mod Walk
pub mod Machine
pub mod Search
pub mod Along
pub mod Passes
pub mod OracleMarks
pub mod Seeking
pub mod Counted
pub mod OraclePasses
pub mod Bits
pub mod OracleRunners
