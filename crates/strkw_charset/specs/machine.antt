-- What the code holds, step by step.
pub mod Lists
pub mod PropertyParts
pub mod ScriptLists
pub mod PropertyReading
pub mod CharClasses
