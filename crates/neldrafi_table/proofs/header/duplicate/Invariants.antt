use Rattle.std.specs.BTreeMap.{get_by}
use Rattle.std.specs.Cmp.Lexicographic.{slice_cmp}
use Rattle.std.specs.Ordering.{nat_cmp}
use Rattle.csv.specs.Records.{fields_of}
use Rattle.neldrafi_table.proofs.HeaderLemmas.{AreKnown, HavePlaces}
use Rattle.neldrafi_table.proofs.header.duplicate.Given as goal

-- each name so far has its one place
abbrev pub invariant-loop-at : goal.invariant-loop-at
invariant-loop-at l = record {
  known : AreKnown (fields_of l.names) l.at (λ name. get_by (λ k. slice_cmp nat_cmp name k.now) l.places);
  have : HavePlaces (fields_of l.names) l.at (λ name. get_by (λ k. slice_cmp nat_cmp name k.now) l.places);
}
