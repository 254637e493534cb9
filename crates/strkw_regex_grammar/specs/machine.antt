-- What the code holds, step by step.
pub mod CodeMaker
pub mod CodeMakers
pub mod NumberReading
pub mod CodeReading
pub mod CodeParts
pub mod Lexemes
pub mod Lexing
pub mod LexerParts
pub mod Recognising
pub mod RecogniserParts
pub mod NameSets
