-- The walk over a table, character by character: what it comes to is what the search does.
use Rattle.std.proofs.Common.{◌≡◌, ℕ, ◌==◌, Bool, true, false, ◌||◌, List, [], ◌∷◌, Option, Some, None, option_and_then, if◌then◌else◌, refl, sym, ap}
use Rattle.std.proofs.Common.{◌∙◌, true≢false}
use Rattle.std.specs.Prelude.{is_some}
use Rattle.std.proofs.lemmas.Bool.{eq-eqb}
use Rattle.strkw_regex_core.specs.machine.MarkedPattern.{MarkedPattern}
use Rattle.strkw_regex_core.specs.machine.Positions.{leaves, step}
use Rattle.strkw_regex_search.specs.machine.Search.{search_from}
use Rattle.strkw_ecma.specs.machine.Dfa.{entry_at, found_row, row_after, walk}
use Rattle.strkw_charset.proofs.Lists.{some_same}

-- one turn of the walk over a text, at its first character
module _ (column : ℕ → Option ℕ) (end : ℕ) (entries text rest : List ℕ) (row c k entry : ℕ) (answer : Option Bool)
    (so_far : walk column end entries row text ≡ answer) (begins : text ≡ c ∷ rest) (column_is : column c ≡ Some k)
    (entry_is : entry ≡ entry_at entries row k) where
  -- what an entry comes to: the pattern is found, or the walk goes on from its row
  Turn : ℕ → Option Bool
  Turn e = if e == found_row then Some true else walk column end entries (row_after end row e) rest

  -- the entry of the character comes to the answer
  here : Turn entry ≡ answer
  unfolding Turn
  here =
      ap Turn entry_is
      ∙ sym (ap (λ (o : Option ℕ). option_and_then (λ (n : ℕ). Turn (entry_at entries row n)) o) column_is)
      ∙ sym (ap (walk column end entries row) begins) ∙ so_far

  -- where it says that the pattern is found, the answer is true
  pub turn_found : entry ≡ found_row → Some true ≡ answer
  unfolding Turn
  turn_found e = sym (rw (eq-eqb _ _ e) refl) ∙ here

  -- where it does not, the walk from the row that it leads to comes to the answer
  pub turn_goes : (to : ℕ) → to ≡ row_after end row entry → (entry == found_row) ≡ false → walk column end entries to rest ≡ answer
  unfolding Turn
  turn_goes to f e = ap (λ (r : ℕ). walk column end entries r rest) f ∙ sym (rw e refl) ∙ here

-- at the end of the text the entry of the last column tells the answer
pub walk_ends : (column : ℕ → Option ℕ) (end : ℕ) (entries text : List ℕ) (row entry : ℕ) (answer : Option Bool)
    → walk column end entries row text ≡ answer → text ≡ [] → entry ≡ entry_at entries row end → Some (entry == found_row) ≡ answer
walk_ends column end entries text row entry answer so_far none is =
    ap (λ (x : ℕ). Some (x == found_row)) is ∙ sym (ap (walk column end entries row) none) ∙ so_far

-- a walk over the rows that a search has at hand is one over those of the table
pub walk_of_rows : (column : ℕ → Option ℕ) (row : ℕ) (text : List ℕ) {end end' : ℕ} {entries entries' : List ℕ} → end ≡ end' → entries ≡ entries'
    → walk column end entries row text ≡ walk column end' entries' row text
walk_of_rows column row text {end} {end'} {entries} {entries'} same_end same_entries =
    ap (λ (n : ℕ). walk column n entries row text) same_end ∙ ap (λ (es : List ℕ). walk column end' es row text) same_entries

-- a relation of rows to states of the search that each entry keeps
module _ (column : ℕ → Option ℕ) (end : ℕ) (entries : List ℕ) (At : ℕ → MarkedPattern → Option ℕ → Type 0)
    (ends : (row : ℕ) (p : MarkedPattern) (b : Option ℕ) → At row p b → (entry_at entries row end == found_row) ≡ leaves b None p true)
    (finds : (row : ℕ) (p : MarkedPattern) (b : Option ℕ) (c k : ℕ) → column c ≡ Some k → At row p b
    → (entry_at entries row k == found_row) ≡ leaves b (Some c) p true)
    (goes : (row : ℕ) (p : MarkedPattern) (b : Option ℕ) (c k : ℕ) → column c ≡ Some k → At row p b → leaves b (Some c) p true ≡ false
    → At (row_after end row (entry_at entries row k)) (step b (Some c) p true) (Some c)) where
  -- the search goes on where nothing is found
  one_turn : (x l m : Bool) (o : Option Bool) (answer : Bool) → x ≡ l → (l ≡ false → o ≡ Some answer → answer ≡ m)
      → (if x then Some true else o) ≡ Some answer → answer ≡ (l || m)
  one_turn x true m o answer e f h = sym (some_same true answer (sym (rw e refl) ∙ h))
  one_turn x false m o answer e f h = f refl (sym (rw e refl) ∙ h)

  -- where the walk comes to an answer, the character has a column, and what follows from that holds
  at_column : (c : ℕ) (f : ℕ → Option Bool) (o : Option ℕ) (answer : Bool) (A : Type 0) → column c ≡ o
      → ((k : ℕ) → column c ≡ Some k → f k ≡ Some answer → A) → option_and_then f o ≡ Some answer → A
  at_column c f None answer A is there h = absurd (true≢false (sym (ap is_some h)))
  at_column c f (Some k) answer A is there h = there k is h

  -- from a row that stands for a state, the walk comes to what the search from there does
  pub walks : (text : List ℕ) (row : ℕ) (p : MarkedPattern) (b : Option ℕ) (answer : Bool) → At row p b
      → walk column end entries row text ≡ Some answer → answer ≡ search_from p b text
  walks [] row p b answer at h = sym (some_same _ answer h) ∙ ends row p b at
  walks (c ∷ cs) row p b answer at h =
      at_column c _ (column c) answer _ refl
      (λ k is.
      one_turn _ _ _ _ answer (finds row p b c k is at) (λ no. walks cs _ _ _ answer (goes row p b c k is at no)))
      h
