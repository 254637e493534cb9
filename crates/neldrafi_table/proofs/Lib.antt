mod HeaderLemmas
mod KeywordLemmas
mod ReadingLemmas
mod ObjectLemmas
mod TableLemmas
