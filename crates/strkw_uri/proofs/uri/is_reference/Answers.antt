use Rattle.std.proofs.Common.{inl, inr}
use Rattle.strkw_text.proofs.Equivalences.{carry}
use Rattle.strkw_uri.specs.Scan.{alphabet, HierPartAndTail}
use Rattle.strkw_uri.proofs.Schemes.{scheme_then, no_scheme_then, not_relative}
use Rattle.strkw_uri.proofs.uri.is_reference.Goals as goal

pub returns-in-Some : goal.returns-in-Some
returns-in-Some c =
    let i = scheme_then (HierPartAndTail (alphabet c.args.syntax)) _ _ c.in-Some.ensures in
    carry c.is_hier_part_and_tail.ensures (elim [ inl u ↦ i.0 u | inr r ↦ absurd (not_relative c.args.syntax _ _ c.in-Some.ensures r) ], λ h. inl (i.1 h))

pub returns-in-None : goal.returns-in-None
returns-in-None c =
    carry c.is_relative_ref.ensures (elim [ inl u ↦ absurd (no_scheme_then (HierPartAndTail (alphabet c.args.syntax)) _ c.in-None.ensures u) | inr r ↦ r ], inr)
