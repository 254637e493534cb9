use Rattle.std.proofs.Common.{◌≡◌, ◌++◌, ℕ, List, length, drop}
use Rattle.strkw_keywords.specs.Handed.{lists_of}
use Rattle.strkw_c.specs.Texts.{numbers}
use Rattle.strkw_c.specs.Verdicts.{Passes, AreVerdicts}
use Rattle.strkw_c.proofs.TextLemmas.{Ascend, texts_from}
use Rattle.strkw_c.proofs.verdicts.verdicts_on.Given as goal

-- the verdicts so far, and before those on the texts that are left, are those on all
abbrev pub invariant-loop-place : goal.invariant-loop-place
invariant-loop-place g l =
    let lists =
    lists_of (λ b. (goal.Format-dyn g b).admits b.1) (λ b. (goal.MediaTypeCheck-dyn g b).accepts b.1)
    (λ b. (goal.ContentCodec-dyn g b).is_encoding b.1) (λ b. (goal.ContentCodec-dyn g b).decoding b.1) l.checks in
    (length l.made.items ≡ l.place) × Ascend (length l.texts) l.from (drop l.place (numbers l.ends))
    × ((more : List ℕ) → AreVerdicts (Passes g.E.RegexEngine.outcome l.keywords lists) (texts_from l.texts l.from (drop l.place (numbers l.ends))) more
    → AreVerdicts (Passes g.E.RegexEngine.outcome l.keywords lists) (texts_from l.texts l.start (numbers l.ends)) (l.made.items ++ more))
