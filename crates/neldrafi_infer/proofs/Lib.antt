mod TallyLemmas
mod PropertyLemmas
mod WordLemmas
mod LawLemmas
