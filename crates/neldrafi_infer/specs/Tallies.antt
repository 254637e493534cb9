-- The misfits of a hypothesis: how many there are, and the first of them.
use Rattle.std.specs.Prelude.{◌≡◌, ◌⊎◌, List, [], ◌∷◌, length, map, take, string_bytes}
use Rattle.neldrafi_infer.specs.Hypotheses.{Seen, IsFit, IsMisfit}
use Rattle.neldrafi_infer.specs.declared.hypotheses.Hypothesis.{Hypothesis}
use Rattle.neldrafi_infer.specs.declared.tally.Misfit.{Misfit}
use Rattle.neldrafi_infer.specs.declared.tally.Tally.{Tally}

-- the misfits among the values are these, in order, and all others fit
abbrev pub AreMisfits : Hypothesis → List Seen → List Seen → Type 0
AreMisfits h [] misfits = misfits ≡ []
AreMisfits h (s ∷ ss) misfits =
    (IsMisfit h s × (rest : List Seen) × (misfits ≡ s ∷ rest) × AreMisfits h ss rest)
    ⊎ (IsFit h s × AreMisfits h ss misfits)

-- what is kept of a misfit
abbrev pub misfit_view : Misfit → Seen
misfit_view m = record { line = m.line; kind = m.kind; text = string_bytes m.text }

-- a tally is that of the misfits among the values: their number, and the first three
pub record IsTallied (seen : List Seen) (t : Tally) : Type 0 where
  pub misfits : List Seen
  pub are : AreMisfits t.hypothesis seen misfits
  pub count : t.count ≡ length misfits
  pub first : map misfit_view t.first.items ≡ take 3 misfits
