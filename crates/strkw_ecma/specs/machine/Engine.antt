-- What an engine comes to on a text, whether it reads that off tables or rows of classes, and
-- whether it takes memory.
use Rattle.std.specs.Prelude.{ℕ, Bool, true, false, not, ◌&&◌, ◌||◌, List, [], ◌∷◌, None, is_some}
use Rattle.strkw_pattern.specs.Matcher.{outcome_of}
use Rattle.strkw_pattern.specs.declared.engine.Outcome.{Outcome}
use Rattle.strkw_charset.specs.Membership.{differ}
use Rattle.strkw_regex_core.specs.machine.Mirror.{along}
use Rattle.strkw_regex_search.specs.machine.Machine.{pattern_of}
use Rattle.strkw_regex_search.specs.machine.Search.{search_from}
use Rattle.strkw_regex_search.specs.machine.OracleRunners.{seeking_of, seekings}
use Rattle.strkw_regex_search.specs.machine.Seeking.{is_sought}
use Rattle.strkw_ecma.specs.declared.engine.EcmaMatcher.{EcmaMatcher}
use Rattle.strkw_ecma.specs.declared.finder.PartFinder.{PartFinder}
use Rattle.strkw_ecma.specs.declared.finder.Search.{Search}
use Rattle.strkw_ecma.specs.declared.finder.Search.TheVariants.{Plain, Told}

abbrev pub is_found_by : Search → List ℕ → Bool
is_found_by (Plain backward f) text = search_from (pattern_of f.program) None (along backward text)
is_found_by (Told asides last) text = is_sought (seekings asides.items) (seeking_of last) text

-- whether each is found, or is not, as it is to be
abbrev pub are_found_by : List PartFinder → List ℕ → Bool
are_found_by [] text = true
are_found_by (f ∷ fs) text = differ f.negated (is_found_by f.search text) && are_found_by fs text

abbrev pub engine_outcome : EcmaMatcher → List ℕ → Outcome
engine_outcome e text = outcome_of (are_found_by e.parts.items text)

abbrev pub reads_table : Search → Bool
reads_table (Plain backward f) = is_some f.table
reads_table (Told asides last) = false

abbrev pub have_tables : List PartFinder → Bool
have_tables [] = true
have_tables (f ∷ fs) = reads_table f.search && have_tables fs

abbrev pub has_table : EcmaMatcher → Bool
has_table e = have_tables e.parts.items

abbrev pub reads_chain : Search → Bool
reads_chain (Plain backward f) = not backward && is_some f.chains
reads_chain (Told asides last) = false

abbrev pub have_chains : List PartFinder → Bool
have_chains [] = true
have_chains (f ∷ fs) = reads_chain f.search && have_chains fs

abbrev pub has_chain : EcmaMatcher → Bool
has_chain e = have_chains e.parts.items

abbrev pub has_rows : Search → Bool
has_rows (Plain backward f) = false
has_rows (Told asides last) = true

abbrev pub have_rows : List PartFinder → Bool
have_rows [] = false
have_rows (f ∷ fs) = has_rows f.search || have_rows fs

abbrev pub takes_memory : EcmaMatcher → Bool
takes_memory e = have_rows e.parts.items
