-- Where a byte first stands, a text is cut; where a byte of another class first stands, a run ends.
use Rattle.std.proofs.Common.{◌≡◌, ◌≢◌, ℕ, zero, suc, ◌+◌, ◌-◌, ◌<◌, ◌≤◌, ◌⊎◌, Bool, true, false, not, cond, eqb, Some, None, List, [], ◌∷◌, ◌++◌}
use Rattle.std.proofs.Common.{length, get_or, take, drop, inl, inr, sym, ap, subst, ◌∙◌, arith, add-one}
use Rattle.std.specs.List.{position, position_or_len}
use Rattle.std.specs.Option.{unwrap_or}
use Rattle.std.proofs.Math.Seq.{drop-cons}
use Rattle.std.proofs.lemmas.Bool.{not-true, not-false, cases_lt, lt-ltb, le-ltb}
use Rattle.std.proofs.lemmas.Bool.Decides.{nat_tests}
use Rattle.std.proofs.lemmas.List.{take-append-drop, take_all, length-drop, length-take-le, get_or-take, drop_more, drop_all}
use Rattle.std.proofs.lemmas.List.Elements.{recursion_from_All}
use Rattle.std.proofs.lemmas.List.Quantifiers.{position-Some}
use Rattle.std.proofs.lemmas.List.Sums.{prefix_len-le-length, passes_at_first, fails_before_first}
use Rattle.strkw_text.specs.Abnf.{Repeat, OneOf}
use Rattle.strkw_text.specs.Delimiters.{Without}
use Rattle.strkw_text.specs.Fronts.{StartsWith, StartsWithNo, RunThen}
use Rattle.strkw_text.proofs.Laws.{starts_one}
use Rattle.strkw_text.proofs.Runs.{differ, run_start, run_push, one_stops, one_stops_nil}

-- a text that is not empty is its first byte and the rest
pub first_and_rest : (bs : List ℕ) → 1 ≤ length bs → bs ≡ get_or bs 0 0 ∷ take (length bs - 1) (drop 1 bs)
first_and_rest [] h = absurd (omega arith)
first_and_rest (b ∷ bs) h = ap (λ (x : List ℕ). b ∷ x) (sym (take_all (length (b ∷ bs) - 1) bs (omega arith)))

-- the byte w stands behind the first part, in which it does not stand, and before the second
abbrev pub CutAt : ℕ → List ℕ → ℕ → Type 0
CutAt w bs at = Without w (take at bs) × (bs ≡ take at bs ++ w ∷ take (length bs - (at + 1)) (drop (at + 1) bs))

-- a text is cut at the position of a byte
pub cut_at_position : (w : ℕ) (bs : List ℕ) (at : ℕ) → position (λ b. eqb b w) bs ≡ Some at → CutAt w bs at
cut_at_position w bs at e =
    let found = position-Some (λ b. eqb b w) bs at 0 e in
    let inside : at < length bs = found.0 in
    let is : get_or bs at 0 ≡ w = grind (arith, nat_tests, found.1) in
    let before : (k d : ℕ) → k < length (take at bs) → get_or (take at bs) k d ≢ w = λ k d h. other k d h in
    let rest : take (length bs - (at + 1)) (drop (at + 1) bs) ≡ drop (at + 1) bs = take_all _ (drop (at + 1) bs) (omega (arith, length-drop (at + 1) bs)) in (
      recursion_from_All (λ b. b ≢ w) (take at bs) before,
      sym (take-append-drop at bs) ∙ ap (λ (x : List ℕ). take at bs ++ x) (drop-cons bs at 0 inside
          ∙ ap (λ (x : List ℕ). get_or bs at 0 ∷ x) (ap (λ k. drop k bs) (sym (add-one at)) ∙ sym rest)
          ∙ ap (λ (c : ℕ). c ∷ take (length bs - (at + 1)) (drop (at + 1) bs)) is),
    )
  where
    other : (k d : ℕ) → k < length (take at bs) → get_or (take at bs) k d ≡ w → ⊥
    other k d h at_w =
        let found = position-Some (λ b. eqb b w) bs at d e in
        let low : k < at = omega (arith, length-take-le at bs (omega (arith, found.0))) in
        let fails : eqb (get_or bs k d) w ≡ false = found.2 k low in
        let same : get_or bs k d ≡ w = sym (get_or-take at bs k d low) ∙ at_w in
        differ (get_or bs k d) w fails same

-- where the first byte stands that is not of a class, or the length of a text without one
abbrev pub run_length : (ℕ → Bool) → List ℕ → ℕ
run_length p bs = position_or_len (λ b. not (p b)) bs

-- the same as a search gives it
pub first_other : (p : ℕ → Bool) (bs : List ℕ) → unwrap_or (position (λ b. not (p b)) bs) (length bs) ≡ run_length p bs
first_other p bs =
    let n = run_length p bs in
    elim (cases_lt n (length bs)) [
      | inl less ↦ ap (λ b. unwrap_or (cond b (Some n) None) (length bs)) (lt-ltb n (length bs) less)
      | inr more ↦ ap (λ b. unwrap_or (cond b (Some n) None) (length bs)) (le-ltb n (length bs) more)
          ∙ (let within : n ≤ length bs = prefix_len-le-length _ bs in let same : length bs ≡ n = omega (arith, more, within) in same)
    ]

-- a run of the class goes up to it
pub run_to_first_other : (p : ℕ → Bool) (bs : List ℕ) → RunThen (OneOf p) bs (drop (run_length p bs) bs)
run_to_first_other p bs = record { run = reads (run_length p bs) (omega arith); stops = stops (cases_lt (run_length p bs) (length bs)) }
  where
    -- byte by byte
    reads : (k : ℕ) → k ≤ run_length p bs → StartsWith (Repeat (OneOf p)) bs (drop k bs)
    reads zero h = run_start (OneOf p) bs
    reads (suc k) h =
        let within : run_length p bs ≤ length bs = prefix_len-le-length _ bs in
        let is : p (get_or bs k 0) ≡ true = not-false _ (fails_before_first (λ b. not (p b)) bs k 0 (omega (arith, h))) in
        let one : drop k bs ≡ get_or bs k 0 ∷ drop (k + 1) bs = drop_more bs k 0 (omega (arith, h, within)) in
        subst (λ j. StartsWith (Repeat (OneOf p)) bs (drop j bs)) (add-one k)
        (run_push (OneOf p) bs (drop k bs) (drop (k + 1) bs) (reads k (omega (arith, h))) (starts_one p (get_or bs k 0) (drop k bs) (drop (k + 1) bs) is one))

    -- and no further
    stops : (run_length p bs < length bs) ⊎ (length bs ≤ run_length p bs) → StartsWithNo (OneOf p) (drop (run_length p bs) bs)
    stops (inl less) =
        let at = get_or bs (run_length p bs) 0 in
        one_stops p at (drop (run_length p bs) bs) (drop (run_length p bs + 1) bs) (drop_more bs (run_length p bs) 0 less)
        (not-true _ (passes_at_first (λ b. not (p b)) bs 0 less))
    stops (inr more) = one_stops_nil p (drop (run_length p bs) bs) (drop_all (run_length p bs) bs more)
