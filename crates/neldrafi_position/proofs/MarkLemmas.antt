-- Lines and columns, byte by byte.
use Rattle.std.proofs.Common.{◌≡◌, ◌≢◌, ◌∙◌, ◌⊎◌, ℕ, ◌+◌, ◌-◌, ◌*◌, ◌≤◌, ◌<◌, List, [], ◌∷◌, ◌++◌, Bool, true, false, add-zero, cond, count_by, length, drop, take, get_or, refl, ap, subst, arith, eq-eqb, ne_eqb, inl, inr, length-append}
use Rattle.std.proofs.lemmas.Bool.{cases_eq}
use Rattle.std.proofs.lemmas.Grind.{common_steps}
use Rattle.std.proofs.lemmas.List.{drop-append-le, drop-take, get_or_append_left, drop_all, reverse-append, take-append-drop}
use Rattle.std.proofs.lemmas.List.Sums.{sum_by-append}
use Rattle.std.proofs.Math.Seq.{get_or-append_seam}
use Rattle.std.specs.Prelude.{not}
use Rattle.std.specs.List.{after_last, suffix_len}
use Rattle.neldrafi_position.specs.Positions.{begins_character, is_line_feed}
use Rattle.neldrafi_position.specs.declared.position.Position.{Position}
use Rattle.neldrafi_position.specs.machine.Marks.{AreMarks, IsBehind}

counted_yes : (p : ℕ → Bool) (xs : List ℕ) (c : ℕ) → p c ≡ true → count_by p (xs ++ c ∷ []) ≡ count_by p xs + 1
counted_yes p xs c e = sum_by-append (λ x. cond (p x) 1 0) xs (c ∷ []) ∙ rw e refl

counted_no : (p : ℕ → Bool) (xs : List ℕ) (c : ℕ) → p c ≡ false → count_by p (xs ++ c ∷ []) ≡ count_by p xs
counted_no p xs c e = sum_by-append (λ x. cond (p x) 1 0) xs (c ∷ []) ∙ rw e (add-zero (count_by p xs))

module _ (text : List ℕ) (c : ℕ) where
  abbrev in_line : List ℕ → ℕ
  in_line = suffix_len (λ x. not (is_line_feed x))

  line_goes_on : (b : Bool) → is_line_feed c ≡ b → in_line (text ++ c ∷ []) ≡ cond (not b) (1 + in_line text) 0
  line_goes_on b e = rw (reverse-append text (c ∷ []), e) refl

  fed : is_line_feed c ≡ true → after_last is_line_feed (text ++ c ∷ []) ≡ []
  fed e = rw (line_goes_on true e) (drop_all (length (text ++ c ∷ []) - 0) (text ++ c ∷ []) (omega arith))

  unfed : is_line_feed c ≡ false → after_last is_line_feed (text ++ c ∷ []) ≡ after_last is_line_feed text ++ c ∷ []
  unfed e =
      let short : length (text ++ c ∷ []) - (1 + in_line text) ≡ length text - in_line text = omega (arith, length-append text (c ∷ [])) in
      rw (line_goes_on false e, short) (drop-append-le (length text - in_line text) text (c ∷ []) (omega arith))

  pub line_fed : (p : Position) → c ≡ 10 → IsBehind text p → IsBehind (text ++ c ∷ []) (record { line = p.line + 1; column = 1 })
  line_fed p e h =
      let is : is_line_feed c ≡ true = eq-eqb c 10 e in
      record { line = omega (arith, h.line, counted_yes is_line_feed text c is); column = rw (fed is) refl }

  pub character_passed : (p : Position) → c ≢ 10 → begins_character c ≡ true → IsBehind text p → IsBehind (text ++ c ∷ []) (record { line = p.line; column = p.column + 1 })
  character_passed p n e h =
      let is : is_line_feed c ≡ false = ne_eqb c 10 n in
      record {
        line = omega (arith, h.line, counted_no is_line_feed text c is);
        column = rw (unfed is) (omega (arith, h.column, counted_yes begins_character (after_last is_line_feed text) c e));
      }

  pub byte_passed : (p : Position) → c ≢ 10 → begins_character c ≡ false → IsBehind text p → IsBehind (text ++ c ∷ []) p
  byte_passed p n e h =
      let is : is_line_feed c ≡ false = ne_eqb c 10 n in
      record {
        line = omega (arith, h.line, counted_no is_line_feed text c is);
        column = rw (unfed is) (omega (arith, h.column, counted_no begins_character (after_last is_line_feed text) c e));
      }

-- ---- marks

pub joined : (n m : ℕ) (text : List ℕ) → take n text ++ take m (drop n text) ≡ take (n + m) text
joined n m text = grind (arith, common_steps, take-append-drop n (take (n + m) text), drop-take n m text)

-- a mark more
module _ (text : List ℕ) (marks : List Position) (front next : Position) (count : ℕ) (all : count ≡ length marks) (h : AreMarks text marks) where
  abbrev from : ℕ
  from = count * 1024

  pub next_mark : IsBehind (take from text) front → from + 1024 ≤ length text
      → ((before : List ℕ) → IsBehind before front → IsBehind (before ++ take (from + 1024 - from) (drop from text)) next) → AreMarks text (marks ++ next ∷ [])
  next_mark at within goes = record { behind = λ index none below. by index none below (cases_eq index (length marks)) } where
    long : from + (from + 1024 - from) ≡ (count + 1) * 1024
    long = omega arith

    by : (index : ℕ) (none : Position) → index < length (marks ++ next ∷ []) → (index ≡ length marks) ⊎ (index ≡ length marks → ⊥)
        → ((index + 1) * 1024 ≤ length text) × IsBehind (take ((index + 1) * 1024) text) (get_or (marks ++ next ∷ []) index none)
    by index none below (inl e) = (
      omega arith,
      rw (e, get_or-append_seam marks next [] none, ← all)
          (subst (λ t. IsBehind t next) (joined from (from + 1024 - from) text ∙ ap (λ n. take n text) long) (goes (take from text) at)),
    )
    by index none below (inr ne) =
        let before : index < length marks = omega (arith, length-append marks (next ∷ [])) in
        rw (get_or_append_left marks (next ∷ []) none index before) (h.behind index none before)
