mod CountLemmas
mod ObjectLemmas
mod CutLemmas
mod FileLemmas
mod RunLemmas
mod TableLemmas
mod SaidLemmas
