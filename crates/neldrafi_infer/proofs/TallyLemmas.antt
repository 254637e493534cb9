-- One more value, and the misfits of a hypothesis.
use Rattle.std.proofs.Common.{◌≡◌, ◌<◌, ◌≤◌, List, [], ◌∷◌, ◌++◌, length, map, take, min, sym, ap, refl, ◌∙◌, inl, inr, arith}
use Rattle.std.proofs.lemmas.List.{length-append, length-map, length-take, map-append, take-append-le, take_all}
use Rattle.neldrafi_infer.specs.Hypotheses.{IsFit, IsMisfit, Seen}
use Rattle.neldrafi_infer.specs.Tallies.{AreMisfits, misfit_view}
use Rattle.neldrafi_infer.specs.declared.hypotheses.Hypothesis.{Hypothesis}
use Rattle.neldrafi_infer.specs.declared.tally.Misfit.{Misfit}

-- a value that is no misfit adds none
pub fit_more : (h : Hypothesis) (ss misfits : List Seen) (s : Seen) → IsFit h s → AreMisfits h ss misfits → AreMisfits h (ss ++ s ∷ []) misfits
fit_more h [] misfits s fits are = inr (fits, are)
fit_more h (x ∷ ss) misfits s fits are = elim are [
  | inl w ↦ inl (w.0, w.1, w.2, fit_more h ss w.1 s fits w.3)
  | inr w ↦ inr (w.0, fit_more h ss misfits s fits w.1)
]

-- a misfit comes behind the others
pub misfit_more : (h : Hypothesis) (ss misfits : List Seen) (s : Seen) → IsMisfit h s → AreMisfits h ss misfits → AreMisfits h (ss ++ s ∷ []) (misfits ++ s ∷ [])
misfit_more h [] misfits s fails are = inl (fails, [], ap (λ l. l ++ s ∷ []) are, refl)
misfit_more h (x ∷ ss) misfits s fails are = elim are [
  | inl w ↦ inl (w.0, w.1 ++ s ∷ [], ap (λ l. l ++ s ∷ []) w.2, misfit_more h ss w.1 s fails w.3)
  | inr w ↦ inr (w.0, misfit_more h ss misfits s fails w.1)
]

-- the misfits are determined
pub one_list : (h : Hypothesis) (ss misfits others : List Seen) → AreMisfits h ss misfits → AreMisfits h ss others → misfits ≡ others
one_list h [] misfits others are also = are ∙ sym also
one_list h (x ∷ ss) misfits others are also = elim are [
  | inl w ↦ elim also [
    | inl v ↦ w.2 ∙ (ap (λ l. x ∷ l) (one_list h ss w.1 v.1 w.3 v.3) ∙ sym v.2)
    | inr v ↦ absurd (w.0.1 (v.0 w.0.0))
  ]
  | inr w ↦ elim also [
    | inl v ↦ absurd (v.0.1 (w.0 v.0.0))
    | inr v ↦ one_list h ss misfits others w.1 v.1
  ]
]

-- so many misfits are kept as there are, up to three
kept_length : (misfits : List Seen) (first : List Misfit) → map misfit_view first ≡ take 3 misfits → length first ≡ min 3 (length misfits)
kept_length misfits first are = sym (length-map first misfit_view) ∙ (ap length are ∙ length-take 3 misfits)

-- where there is room, one more is kept
pub keep_more : (misfits : List Seen) (first new : List Misfit) (s : Seen) (m : Misfit) → length first < 3 → misfit_view m ≡ s → new ≡ first ++ m ∷ [] → map misfit_view first ≡ take 3 misfits → map misfit_view new ≡ take 3 (misfits ++ s ∷ [])
keep_more misfits first new s m room is new_is are =
    let kept = kept_length misfits first are in
    let short : length misfits < 3 = grind (arith, kept, room) in
    let longer : length (misfits ++ s ∷ []) ≤ 3 = rw length-append (omega arith) in
    let all : take 3 misfits ≡ misfits = take_all 3 misfits (omega arith) in
    let more : take 3 (misfits ++ s ∷ []) ≡ misfits ++ s ∷ [] = take_all 3 (misfits ++ s ∷ []) longer in
    ap (map misfit_view) new_is ∙ (map-append misfit_view first (m ∷ []) ∙ (ap (λ l. l ++ misfit_view m ∷ []) (are ∙ all)
    ∙ (ap (λ x. misfits ++ x ∷ []) is ∙ sym more)))

-- where there is none, no more are kept
pub keep_first : (misfits : List Seen) (first : List Misfit) (s : Seen) → (length first < 3 → ⊥) → map misfit_view first ≡ take 3 misfits → map misfit_view first ≡ take 3 (misfits ++ s ∷ [])
keep_first misfits first s full are =
    let kept = kept_length misfits first are in
    let long : 3 ≤ length misfits = grind (arith, kept, full) in
    are ∙ sym (take-append-le 3 misfits (s ∷ []) long)
