pub mod LineLemmas
pub mod RunLemmas
pub mod ScanLemmas
pub mod FieldLemmas
pub mod BufferLemmas
pub mod InputLemmas
pub mod ReaderLemmas
pub mod RecordFacts
