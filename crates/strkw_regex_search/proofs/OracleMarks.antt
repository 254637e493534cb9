-- Marks that stand for lookaheads: a pattern with such marks is walked as the pattern is, where each says what is so.
use Rattle.std.proofs.Common.{◌≡◌, ℕ, suc, ◌+◌, ◌<◌, Bool, true, false, ◌&&◌, ◌||◌, List, [], ◌∷◌, ◌++◌, length, drop, get_or, Option, Some, None}
use Rattle.std.proofs.Common.{get_or-drop, refl, sym, ap, subst, ◌∙◌, length-append, drop-drop, arith}
use Rattle.strkw_regex_core.specs.machine.MarkedPattern.{MarkedPattern, empty, class, look, cat, alt, star, plus, lookbehind, lookahead}
use Rattle.strkw_charset.specs.Membership.{differ}
use Rattle.strkw_regex_core.specs.machine.Positions.{reads, leaves, leaves_by, step, step_by, classes, mark_classes}
use Rattle.strkw_regex_search.proofs.Marked.{same_classes}
use Rattle.strkw_regex_search.specs.machine.OracleMarks.{slot, told, aside, spots, told_mark, told_by}

-- where lookaheads are told by marks
module _ (see : MarkedPattern → Bool) (b a : Option ℕ) where
  -- a way ends where it does by what is said of them
  pub told_leaves : (p : MarkedPattern) (x : Bool) → leaves b a (told see p) x ≡ leaves_by see b a p x
  told_leaves empty x = refl
  told_leaves (class m n rs) x = refl
  told_leaves (look l) x = refl
  told_leaves (cat p q) x =
      told_leaves q (leaves b a (told see p) x) ∙ ap (leaves_by see b a q) (told_leaves p x)
  told_leaves (alt p q) x =
      ap (λ (y : Bool). y || leaves b a (told see q) x) (told_leaves p x) ∙ ap (λ (y : Bool). leaves_by see b a p x || y) (told_leaves q x)
  told_leaves (star p) x = ap (λ (y : Bool). x || y) (told_leaves p false)
  told_leaves (plus p) x =
      told_leaves p (x || leaves b a (told see p) false) ∙ ap (λ (y : Bool). leaves_by see b a p (x || y)) (told_leaves p false)
  told_leaves (lookbehind n p) x = ap (λ (y : Bool). x && differ n y) (told_leaves p true)
  told_leaves (lookahead n p) x = refl

  -- a class without characters reads none
  reads_none : (c : Option ℕ) → reads c false [] ≡ false
  reads_none None = refl
  reads_none (Some c) = refl

  -- and a step leaves the marks that it does, with none told
  pub told_step : (p : MarkedPattern) (x : Bool) → step b a (told see p) x ≡ aside (step_by see b a p x)
  told_step empty x = refl
  told_step (class m n rs) x = refl
  told_step (look l) x = refl
  told_step (cat p q) x =
      ap (λ (r : MarkedPattern). cat r (step b a (told see q) (leaves b a (told see p) x))) (told_step p x)
      ∙ ap (cat (aside (step_by see b a p x)))
      (told_step q (leaves b a (told see p) x) ∙ ap (λ (y : Bool). aside (step_by see b a q y)) (told_leaves p x))
  told_step (alt p q) x =
      ap (λ (r : MarkedPattern). alt r (step b a (told see q) x)) (told_step p x) ∙ ap (alt (aside (step_by see b a p x))) (told_step q x)
  told_step (star p) x =
      ap star (told_step p (x || leaves b a (told see p) false) ∙ ap (λ (y : Bool). aside (step_by see b a p (x || y))) (told_leaves p false))
  told_step (plus p) x =
      ap plus (told_step p (x || leaves b a (told see p) false) ∙ ap (λ (y : Bool). aside (step_by see b a p (x || y))) (told_leaves p false))
  told_step (lookbehind n p) x = ap (lookbehind n) (told_step p true)
  told_step (lookahead n p) x = ap (λ (m : Bool). slot n m) (reads_none a)

  -- it changes nothing of what lookaheads look for
  pub step_spots : (p : MarkedPattern) (x : Bool) → spots (step_by see b a p x) ≡ spots p
  step_spots empty x = refl
  step_spots (class m n rs) x = refl
  step_spots (look l) x = refl
  step_spots (cat p q) x =
      ap (λ (ss : List (Option MarkedPattern)). ss ++ spots (step_by see b a q (leaves_by see b a p x))) (step_spots p x)
      ∙ ap (λ (ss : List (Option MarkedPattern)). spots p ++ ss) (step_spots q (leaves_by see b a p x))
  step_spots (alt p q) x =
      ap (λ (ss : List (Option MarkedPattern)). ss ++ spots (step_by see b a q x)) (step_spots p x)
      ∙ ap (λ (ss : List (Option MarkedPattern)). spots p ++ ss) (step_spots q x)
  step_spots (star p) x = step_spots p (x || leaves_by see b a p false)
  step_spots (plus p) x = step_spots p (x || leaves_by see b a p false)
  step_spots (lookbehind n p) x = step_spots p true
  step_spots (lookahead n p) x = refl

-- for each class there is a spot
pub spots_count : (p : MarkedPattern) → classes (aside p) ≡ length (spots p)
spots_count empty = refl
spots_count (class m n rs) = refl
spots_count (look l) = refl
spots_count (cat p q) = omega (arith, spots_count p, spots_count q, length-append (spots p) (spots q))
spots_count (alt p q) = omega (arith, spots_count p, spots_count q, length-append (spots p) (spots q))
spots_count (star p) = spots_count p
spots_count (plus p) = spots_count p
spots_count (lookbehind n p) = spots_count p
spots_count (lookahead n p) = refl

-- What is said by numbers, `now`, is what `see` says of the lookaheads that they stand for.
module _ (now : ℕ → Bool) (see : MarkedPattern → Bool) where
  -- each number says so of the lookahead that it stands for
  abbrev pub AreSaid : List (Option ℕ) → List (Option MarkedPattern) → Type 0
  AreSaid ts [] = Unit {0}
  AreSaid ts (None ∷ ss) = (get_or ts 0 None ≡ None) × AreSaid (drop 1 ts) ss
  AreSaid ts (Some p ∷ ss) = (told_mark now (get_or ts 0 None) false ≡ see p) × AreSaid (drop 1 ts) ss

  -- of two lists one behind the other, it is so of the first
  said_first : (ts : List (Option ℕ)) (ss rs : List (Option MarkedPattern)) → AreSaid ts (ss ++ rs) → AreSaid ts ss
  said_first ts [] rs s = tt
  said_first ts (None ∷ ss) rs s = (s.0, said_first (drop 1 ts) ss rs s.1)
  said_first ts (Some p ∷ ss) rs s = (s.0, said_first (drop 1 ts) ss rs s.1)

  -- and of the second
  said_second : (ts : List (Option ℕ)) (ss rs : List (Option MarkedPattern)) → AreSaid ts (ss ++ rs) → AreSaid (drop (length ss) ts) rs
  said_second ts [] rs s = s
  said_second ts (None ∷ ss) rs s =
      let next : 1 + length ss ≡ suc (length ss) = omega arith in
      subst (λ (l : List (Option ℕ)). AreSaid l rs) (drop-drop (length ss) 1 ts ∙ ap (λ (k : ℕ). drop k ts) next)
      (said_second (drop 1 ts) ss rs s.1)
  said_second ts (Some p ∷ ss) rs s =
      let next : 1 + length ss ≡ suc (length ss) = omega arith in
      subst (λ (l : List (Option ℕ)). AreSaid l rs) (drop-drop (length ss) 1 ts ∙ ap (λ (k : ℕ). drop k ts) next)
      (said_second (drop 1 ts) ss rs s.1)

  -- a pattern with none told, of which those numbers tell, has each told
  pub all_told : (p : MarkedPattern) (ts : List (Option ℕ)) → AreSaid ts (spots p) → told_by now ts (aside p) ≡ told see p
  all_told empty ts s = refl
  all_told (class m n rs) ts s = ap (λ (t : Option ℕ). class (told_mark now t m) n rs) s.0
  all_told (look l) ts s = refl
  all_told (cat p q) ts s =
      ap (λ (r : MarkedPattern). cat r (told_by now (drop (classes (aside p)) ts) (aside q))) (all_told p ts (said_first ts (spots p) (spots q) s))
      ∙ ap (λ (k : ℕ). cat (told see p) (told_by now (drop k ts) (aside q))) (spots_count p)
      ∙ ap (cat (told see p)) (all_told q (drop (length (spots p)) ts) (said_second ts (spots p) (spots q) s))
  all_told (alt p q) ts s =
      ap (λ (r : MarkedPattern). alt r (told_by now (drop (classes (aside p)) ts) (aside q))) (all_told p ts (said_first ts (spots p) (spots q) s))
      ∙ ap (λ (k : ℕ). alt (told see p) (told_by now (drop k ts) (aside q))) (spots_count p)
      ∙ ap (alt (told see p)) (all_told q (drop (length (spots p)) ts) (said_second ts (spots p) (spots q) s))
  all_told (star p) ts s = ap star (all_told p ts s)
  all_told (plus p) ts s = ap plus (all_told p ts s)
  all_told (lookbehind n p) ts s = ap (lookbehind n) (all_told p ts s)
  all_told (lookahead n p) ts s = ap (λ (m : Bool). slot n m) s.0

-- what is so of each mark of two patterns is so of those of the second
later : (now : ℕ → Bool) (n m : ℕ) (ts : List (Option ℕ)) (ms ns : List Bool)
    → ((k : ℕ) → k < n + m → get_or ns k false ≡ told_mark now (get_or ts k None) (get_or ms k false))
    → (k : ℕ) → k < m → get_or (drop n ns) k false ≡ told_mark now (get_or (drop n ts) k None) (get_or (drop n ms) k false)
later now n m ts ms ns each k h =
    get_or-drop n ns k false ∙ each (n + k) (omega (arith, h))
    ∙ sym (ap (λ (t : Option ℕ). told_mark now t (get_or (drop n ms) k false)) (get_or-drop n ts k None)
    ∙ ap (told_mark now (get_or ts (n + k) None)) (get_or-drop n ms k false))

-- marks in a list that are told where numbers tell them, and else the old ones, are those of the pattern with these
-- told
pub marks_told : (now : ℕ → Bool) (p : MarkedPattern) (ts : List (Option ℕ)) (ms ns : List Bool)
    → ((k : ℕ) → k < classes p → get_or ns k false ≡ told_mark now (get_or ts k None) (get_or ms k false))
    → mark_classes ns p ≡ told_by now ts (mark_classes ms p)
marks_told now empty ts ms ns each = refl
marks_told now (class m n rs) ts ms ns each = ap (λ (b : Bool). class b n rs) (each 0 (omega arith))
marks_told now (look l) ts ms ns each = refl
marks_told now (cat p q) ts ms ns each =
    ap (λ (r : MarkedPattern). cat r (mark_classes (drop (classes p) ns) q)) (marks_told now p ts ms ns (λ k h. each k (omega (arith, h))))
    ∙ ap (cat (told_by now ts (mark_classes ms p)))
    (marks_told now q (drop (classes p) ts) (drop (classes p) ms) (drop (classes p) ns) (later now (classes p) (classes q) ts ms ns each))
    ∙ ap (λ (k : ℕ). cat (told_by now ts (mark_classes ms p)) (told_by now (drop k ts) (mark_classes (drop (classes p) ms) q))) (sym (same_classes ms p))
marks_told now (alt p q) ts ms ns each =
    ap (λ (r : MarkedPattern). alt r (mark_classes (drop (classes p) ns) q)) (marks_told now p ts ms ns (λ k h. each k (omega (arith, h))))
    ∙ ap (alt (told_by now ts (mark_classes ms p)))
    (marks_told now q (drop (classes p) ts) (drop (classes p) ms) (drop (classes p) ns) (later now (classes p) (classes q) ts ms ns each))
    ∙ ap (λ (k : ℕ). alt (told_by now ts (mark_classes ms p)) (told_by now (drop k ts) (mark_classes (drop (classes p) ms) q))) (sym (same_classes ms p))
marks_told now (star p) ts ms ns each = ap star (marks_told now p ts ms ns each)
marks_told now (plus p) ts ms ns each = ap plus (marks_told now p ts ms ns each)
marks_told now (lookbehind n p) ts ms ns each = ap (lookbehind n) (marks_told now p ts ms ns each)
marks_told now (lookahead n p) ts ms ns each = refl
