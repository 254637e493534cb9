-- Searches whose marks are told, with their steps counted: they come to what is defined, within the steps of their
-- patterns.
use Rattle.std.proofs.Common.{◌≡◌, ℕ, suc, ◌+◌, ◌*◌, Bool, true, false, ◌||◌, List, [], ◌∷◌, ◌++◌, length, drop, Option, Some, None, append-nil, refl}
use Rattle.std.proofs.Common.{sym, ap, ◌∙◌, arith}
use Rattle.strkw_regex_core.specs.machine.MarkedPattern.{MarkedPattern, empty, class, look, cat, alt, star, plus, lookbehind, lookahead}
use Rattle.strkw_regex_core.specs.machine.Mirror.{along}
use Rattle.strkw_regex_core.specs.machine.Program.{program}
use Rattle.strkw_regex_core.specs.machine.ProgramSteps.{steps_of, steps}
use Rattle.strkw_regex_search.specs.machine.Counted.{walking, ending, fill_rows, seeking_by, is_any}
use Rattle.strkw_regex_core.specs.machine.Positions.{leaves, step, classes, mark_classes, marks_of}
use Rattle.strkw_regex_search.specs.machine.Seeking.{Seeking, row_answer, ends_from, ends_within, row_of, rows_behind, is_sought}
use Rattle.strkw_regex_search.specs.machine.OracleMarks.{told_by}
use Rattle.strkw_regex_search.specs.machine.Walk.{Walked}
use Rattle.strkw_regex_search.proofs.Counted.{walk_of, walking_steps}
use Rattle.strkw_regex_search.proofs.Marked.{same_program, own_marks, step_marked}
use Rattle.strkw_regex_search.proofs.OracleCorrect.{along_length}

-- marks that are told change neither which classes there are
told_classes : (now : ℕ → Bool) (ts : List (Option ℕ)) (p : MarkedPattern) → classes (told_by now ts p) ≡ classes p
told_classes now ts empty = refl
told_classes now ts (class m n rs) = refl
told_classes now ts (look l) = refl
told_classes now ts (cat p q) = omega (arith, told_classes now ts p, told_classes now (drop (classes p) ts) q)
told_classes now ts (alt p q) = omega (arith, told_classes now ts p, told_classes now (drop (classes p) ts) q)
told_classes now ts (star p) = told_classes now ts p
told_classes now ts (plus p) = told_classes now ts p
told_classes now ts (lookbehind n p) = told_classes now ts p
told_classes now ts (lookahead n p) = refl

-- nor what the pattern is with others
told_marked : (ms : List Bool) (now : ℕ → Bool) (ts : List (Option ℕ)) (p : MarkedPattern) → mark_classes ms (told_by now ts p) ≡ mark_classes ms p
told_marked ms now ts empty = refl
told_marked ms now ts (class m n rs) = refl
told_marked ms now ts (look l) = refl
told_marked ms now ts (cat p q) =
    ap (λ (r : MarkedPattern). cat r (mark_classes (drop (classes (told_by now ts p)) ms) (told_by now (drop (classes p) ts) q))) (told_marked ms now ts p)
    ∙ ap (λ (k : ℕ). cat (mark_classes ms p) (mark_classes (drop k ms) (told_by now (drop (classes p) ts) q))) (told_classes now ts p)
    ∙ ap (cat (mark_classes ms p)) (told_marked (drop (classes p) ms) now (drop (classes p) ts) q)
told_marked ms now ts (alt p q) =
    ap (λ (r : MarkedPattern). alt r (mark_classes (drop (classes (told_by now ts p)) ms) (told_by now (drop (classes p) ts) q))) (told_marked ms now ts p)
    ∙ ap (λ (k : ℕ). alt (mark_classes ms p) (mark_classes (drop k ms) (told_by now (drop (classes p) ts) q))) (told_classes now ts p)
    ∙ ap (alt (mark_classes ms p)) (told_marked (drop (classes p) ms) now (drop (classes p) ts) q)
told_marked ms now ts (star p) = ap star (told_marked ms now ts p)
told_marked ms now ts (plus p) = ap plus (told_marked ms now ts p)
told_marked ms now ts (lookbehind n p) = ap (lookbehind n) (told_marked ms now ts p)
told_marked ms now ts (lookahead n p) = refl

-- so nor its program
told_program : (now : ℕ → Bool) (ts : List (Option ℕ)) (p : MarkedPattern) → program (told_by now ts p) ≡ program p
told_program now ts p =
    sym (same_program [] (told_by now ts p)) ∙ ap program (told_marked [] now ts p) ∙ same_program [] p

-- one walk
module _ (b a : Option ℕ) (q : MarkedPattern) where
  -- the pattern with the marks that a walk leaves is that after a step
  left_marks : mark_classes (walking b a (program q) (marks_of q)).result.marks q ≡ step b a q true
  left_marks =
      let r = step b a q true in
      ap (λ (w : Walked). mark_classes w.marks q) (walk_of b a q) ∙ sym (step_marked b a (marks_of r) q true)
      ∙ ap (λ (ms : List Bool). mark_classes ms r) (sym (append-nil (marks_of r))) ∙ own_marks r []

  -- and its answer is that of the step
  left_answer : (walking b a (program q) (marks_of q)).result.leaves ≡ leaves b a q true
  left_answer = ap (λ (w : Walked). w.leaves) (walk_of b a q)

-- a search whose marks are told
module _ (rows : List (List Bool)) (ts : List (Option ℕ)) where
  -- comes to its answers
  ending_result : (cs : List ℕ) (p : MarkedPattern) (last : Option ℕ) → (ending rows ts p last cs).result ≡ ends_from rows ts p last cs
  ending_result [] p last = ap (λ (b : Bool). b ∷ []) (left_answer last None (told_by (row_answer rows 0) ts p))
  ending_result (c ∷ cs) p last =
      let q = told_by (row_answer rows (suc (length cs))) ts p in
      ap (λ (b : Bool). b ∷ (ending rows ts (mark_classes (walking last (Some c) (program q) (marks_of q)).result.marks q) (Some c) cs).result)
      (left_answer last (Some c) q)
      ∙ ap (λ (r : MarkedPattern). leaves last (Some c) q true ∷ (ending rows ts r (Some c) cs).result) (left_marks last (Some c) q)
      ∙ ap (λ (bs : List Bool). leaves last (Some c) q true ∷ bs) (ending_result cs (step last (Some c) q true) (Some c))

  -- in twice its steps for each place
  ending_steps : (cs : List ℕ) (p : MarkedPattern) (last : Option ℕ) → (ending rows ts p last cs).steps ≡ 2 * steps p * (length cs + 1)
  ending_steps [] p last =
      let q = told_by (row_answer rows 0) ts p in
      let same : steps q ≡ steps p = ap steps_of (told_program (row_answer rows 0) ts p) in
      walking_steps last None (program q) (marks_of q) ∙ ap (λ (n : ℕ). 2 * n) same ∙ omega arith
  ending_steps (c ∷ cs) p last =
      let now = row_answer rows (suc (length cs)) in
      let q = told_by now ts p in
      let one = walking last (Some c) (program q) (marks_of q) in
      let same : steps q ≡ steps p = ap steps_of (told_program now ts p) in
      let behind : steps (mark_classes one.result.marks q) ≡ steps p = ap steps_of (same_program one.result.marks q) ∙ same in
      ap (λ (n : ℕ). n + (ending rows ts (mark_classes one.result.marks q) (Some c) cs).steps)
      (walking_steps last (Some c) (program q) (marks_of q) ∙ ap (λ (n : ℕ). 2 * n) same)
      ∙ ap (λ (n : ℕ). 2 * steps p + n)
      (ending_steps cs (mark_classes one.result.marks q) (Some c) ∙ ap (λ (n : ℕ). 2 * n * (length cs + 1)) behind)
      ∙ omega arith

  -- one of its answers holds exactly where it ends at some place
  any_ends : (cs : List ℕ) (p : MarkedPattern) (last : Option ℕ) → is_any (ends_from rows ts p last cs) ≡ ends_within rows ts p last cs
  any_ends [] p last = or_false (leaves last None (told_by (row_answer rows 0) ts p) true)
    where
      or_false : (b : Bool) → (b || false) ≡ b
      or_false true = refl
      or_false false = refl
  any_ends (c ∷ cs) p last =
      let q = told_by (row_answer rows (suc (length cs))) ts p in
      ap (λ (b : Bool). leaves last (Some c) q true || b) (any_ends cs (step last (Some c) q true) (Some c))

-- the steps of some patterns
abbrev pub total : List Seeking → ℕ
total [] = 0
total (x ∷ xs) = steps x.pattern + total xs

module _ (text : List ℕ) where
  -- the rows of some searches are what is defined
  rowing_result : (xs : List Seeking) (rows : List (List Bool)) → (fill_rows rows text xs).result ≡ rows_behind rows text xs
  rowing_result [] rows = refl
  rowing_result (x ∷ xs) rows =
      ap (λ (r : List Bool). (fill_rows (rows ++ (r ∷ [])) text xs).result) (ending_result rows x.told (along x.backward text) x.pattern None)
      ∙ rowing_result xs (rows ++ (row_of rows text x ∷ []))

  -- in twice the steps of all for each place
  rowing_steps : (xs : List Seeking) (rows : List (List Bool)) → (fill_rows rows text xs).steps ≡ 2 * total xs * (length text + 1)
  rowing_steps [] rows = omega arith
  rowing_steps (x ∷ xs) rows =
      let row = ending rows x.told x.pattern None (along x.backward text) in
      ap (λ (n : ℕ). n + (fill_rows (rows ++ (row.result ∷ [])) text xs).steps)
      (ending_steps rows x.told (along x.backward text) x.pattern None
      ∙ ap (λ (n : ℕ). 2 * steps x.pattern * (n + 1)) (along_length x.backward text))
      ∙ ap (λ (n : ℕ). 2 * steps x.pattern * (length text + 1) + n) (rowing_steps xs (rows ++ (row.result ∷ []))) ∙ omega arith

  -- the last of them comes to what is sought
  pub seeking_answer : (xs : List Seeking) (x : Seeking) → is_any (seeking_by xs x text).result ≡ is_sought xs x text
  seeking_answer xs x =
      ap is_any (ending_result (fill_rows [] text xs).result x.told (along x.backward text) x.pattern None)
      ∙ ap (λ (rows : List (List Bool)). is_any (ends_from rows x.told x.pattern None (along x.backward text))) (rowing_result xs [])
      ∙ any_ends (rows_behind [] text xs) x.told (along x.backward text) x.pattern None

  -- in twice the steps of all and of what is sought, for each place
  pub seeking_steps : (xs : List Seeking) (x : Seeking) → (seeking_by xs x text).steps ≡ 2 * (total xs + steps x.pattern) * (length text + 1)
  seeking_steps xs x =
      ap (λ (n : ℕ). n + (ending (fill_rows [] text xs).result x.told x.pattern None (along x.backward text)).steps) (rowing_steps xs [])
      ∙ ap (λ (n : ℕ). 2 * total xs * (length text + 1) + n)
      (ending_steps (fill_rows [] text xs).result x.told (along x.backward text) x.pattern None
      ∙ ap (λ (n : ℕ). 2 * steps x.pattern * (n + 1)) (along_length x.backward text))
      ∙ omega arith
