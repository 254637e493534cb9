-- What the code holds, lexeme by lexeme.
pub mod Times
pub mod Building
pub mod BuilderParts
pub mod Reading
pub mod RefusalParts
pub mod Taken
