-- Rows and entries of a table: what is right when it is added stays right.
use Rattle.std.proofs.Common.{◌≡◌, ℕ, suc, zero, ◌+◌, ◌*◌, ◌/◌, ◌≤◌, ◌<◌, ◌==◌, Bool, true, false, List, [], ◌∷◌, ◌++◌, Some, None, slice_get, length}
use Rattle.std.proofs.Common.{get_or, set, refl, sym, ap, subst, ◌∙◌, ⊎_elim, if◌then◌else◌, true≢false, arith, rules, length-append, append_assoc}
use Rattle.std.proofs.Common.{get_or-set_same, get_or-set_other}
use Rattle.std.proofs.Math.Seq.{get_or-append_seam}
use Rattle.std.proofs.lemmas.List.{append-nil, get_or_append_left}
use Rattle.std.proofs.lemmas.Bool.{cases_eq}
use Rattle.std.proofs.lemmas.Nat.{mul-add-lt, div-mul-add}
use Rattle.std.proofs.lemmas.Option.{none-some, same_Some, slice_get_within, slice_get-get_or}
use Rattle.strkw_regex_core.specs.machine.MarkedPattern.{MarkedPattern}
use Rattle.strkw_regex_core.specs.Meaning.{is_word, is_edge}
use Rattle.strkw_regex_core.specs.machine.Positions.{leaves, step, mark_classes}
use Rattle.strkw_ecma.specs.machine.Dfa.{entry_at, found_row, next_row, row_after, marks_in, IsStateOf, IsBehind, IsEntry, IsRow, AreRows, IsDraft}
use Rattle.strkw_ecma.specs.machine.Dfa.{AreEntries, SaysSame, SayTheSame}
use Rattle.strkw_charset.specs.machine.Lists.{IsFront}
use Rattle.strkw_ecma.specs.declared.states.State.{State}
use Rattle.strkw_charset.proofs.Lists.{one_more}

-- a list is the front of itself
pub front_same : {A : Type 0} (xs : List A) → IsFront xs xs
front_same xs = ([], sym (append-nil xs))

-- the front of a front is one
pub front_on : {A : Type 0} (xs ys zs : List A) → IsFront xs ys → IsFront ys zs → IsFront xs zs
front_on {A} xs ys zs one two = (one.0 ++ two.0, two.1 ∙ ap (λ (l : List A). l ++ two.0) one.1 ∙ append_assoc xs one.0 two.0)

-- what has a place in the front has it in the list
in_front : {A : Type 0} (xs ys : List A) (n : ℕ) (x : A) → slice_get xs n ≡ Some x → slice_get (xs ++ ys) n ≡ Some x
in_front [] ys n x h = absurd (none-some x h)
in_front (y ∷ xs) ys zero x h = h
in_front (y ∷ xs) ys (suc n) x h = in_front xs ys n x h

-- a state keeps its number
pub state_stays : (states later : List State) (n : ℕ) (s : State) → IsFront states later → slice_get states n ≡ Some s → slice_get later n ≡ Some s
state_stays states later n s front there =
    subst (λ (l : List State). slice_get l n ≡ Some s) (sym front.1) (in_front states front.0 n s there)

-- a state that has a number later has it before, where there is one with this number
state_was : (states later : List State) (n : ℕ) (s : State) → IsFront states later → n < length states → slice_get later n ≡ Some s
    → slice_get states n ≡ Some s
state_was states later n s front within there =
    let was : slice_get states n ≡ Some (get_or states n s) = slice_get-get_or states n s within in
    let same : get_or states n s ≡ s = same_Some _ _ (sym (state_stays states later n _ front was) ∙ there) in
    was ∙ ap (λ (t : State). Some t) same

-- an entry keeps its place
entry_stays : (before after : List ℕ) (i : ℕ) → IsFront before after → i < length before → get_or after i 0 ≡ get_or before i 0
entry_stays before after i front within =
    ap (λ (l : List ℕ). get_or l i 0) front.1 ∙ get_or_append_left before front.0 0 i within

-- an entry stays right when states are added
entry_grows : (p : MarkedPattern) (end : ℕ) (states later : List State) (s : State) (row c entry : ℕ) → IsFront states later
    → IsEntry p end states s row c entry → IsEntry p end later s row c entry
entry_grows p end states later s row c entry front right =
    record {
      finds = right.finds;
      goes = λ none.
          let next = right.goes none in
          let behind = next.2 in
          let of_row = behind.1 in
          (next.0, next.1, (behind.0, (of_row.0, of_row.1, state_stays states later _ _ front of_row.2), behind.2, behind.3, behind.4));
    }

-- a row stays right when states and entries are added
row_grows : (p : MarkedPattern) (samples before after : List ℕ) (states later : List State) (s : State) (row : ℕ) → IsFront before after → IsFront states later
    → row + length samples < length before → IsRow p samples before states s row → IsRow p samples after later s row
row_grows p samples before after states later s row entries more within right =
    record {
      ends = ap (λ (e : ℕ). e == found_row) (entry_stays before after (row + length samples) entries within) ∙ right.ends;
      reads = λ k h.
          subst (λ (e : ℕ). IsEntry p (length samples) later s row (get_or samples k 0) e)
          (sym (entry_stays before after (row + k) entries (omega (arith, h, within))))
          (entry_grows p (length samples) states later s row _ _ more (right.reads k h));
    }

-- the last of a list that one is added to
last_is : (before after : List ℕ) (e i : ℕ) → after ≡ before ++ e ∷ [] → i ≡ length before → get_or after i 0 ≡ e
last_is before after e i longer here =
    ap (λ (l : List ℕ). get_or l i 0) longer ∙ ap (λ (j : ℕ). get_or (before ++ e ∷ []) j 0) here ∙ get_or-append_seam before e [] 0

-- how long that is
one_longer : (before after : List ℕ) (e : ℕ) → after ≡ before ++ e ∷ [] → length after ≡ length before + 1
one_longer before after e longer = ap length longer ∙ length-append before (e ∷ []) ∙ omega arith

-- the entry that says found is right where the pattern is left
pub entry_finds : (p : MarkedPattern) (end : ℕ) (states : List State) (s : State) (row c : ℕ) → leaves s.last (Some c) (marks_in p s) true ≡ true
    → IsEntry p end states s row c found_row
entry_finds p end states s row c is = record { finds = sym is; goes = λ none. absurd (true≢false (sym is ∙ none)) }

-- the entry that is the place of the row of a number is right where the pattern is not left, and the state of the
-- number is behind the character
pub entry_leads : (p : MarkedPattern) (end : ℕ) (states : List State) (s : State) (row c entry number : ℕ) (ms : List Bool)
    → leaves s.last (Some c) (marks_in p s) true ≡ false → mark_classes ms p ≡ step s.last (Some c) (marks_in p s) true → IsStateOf p states number ms c
    → (entry ≡ number * (end + 1)) × (entry < next_row) → IsEntry p end states s row c entry
entry_leads p end states s row c entry number ms none stepped t place =
    let low = place.1 in
    let not_found : (entry == found_row) ≡ false = search rules in
    let no_next_row : (entry == next_row) ≡ false = search rules in
    let after : row_after end row entry ≡ entry = ap (λ (b : Bool). if b then row + (end + 1) else entry) no_next_row in
    record {
      finds = not_found ∙ sym none;
      goes = λ _.
          (ms, stepped, subst (λ (r : ℕ). IsBehind p end states r ms c) (sym after) (t.0, (number, place.0, t.1), t.2, t.3, t.4));
    }

-- the state of a number is the one that stands there
pub same_state : (states : List State) (number : ℕ) (s t : State) → slice_get states number ≡ Some s → slice_get states number ≡ Some t → s ≡ t
same_state states number s t here there = same_Some s t (sym here ∙ there)

-- what is added to a list stands last
in_last : {A : Type 0} (xs : List A) (x : A) → slice_get (xs ++ x ∷ []) (length xs) ≡ Some x
in_last [] x = refl
in_last (y ∷ xs) x = in_last xs x

-- a state that is added has the number of those before it
pub state_added : (p : MarkedPattern) (states later : List State) (t : State) (number : ℕ) (ms : List Bool) (c : ℕ) → later ≡ states ++ t ∷ []
    → number ≡ length states → t.marks.items ≡ ms → t.last ≡ Some c → IsStateOf p later number ms c
state_added p states later t number ms c longer here marks last =
    let there : slice_get later number ≡ Some t = ap (λ (l : List State). slice_get l number) longer
    ∙ ap (λ (n : ℕ). slice_get (states ++ t ∷ []) n) here ∙ in_last states t in
    (t, there, marks, λ _. ap is_word last, ap is_edge last)

-- no entries are right before the first is added
pub entries_begin : (p : MarkedPattern) (samples before : List ℕ) (states : List State) (number : ℕ) → AreEntries p samples before before states states number 0
entries_begin p samples before states number =
    record {
      entries_stay = front_same before;
      states_stay = front_same states;
      placed = omega arith;
      reads = λ k h. absurd (omega (arith, h));
    }

-- one more entry that is right is added to so many
pub entry_added : (p : MarkedPattern) (samples before after longer : List ℕ) (states later last : List State) (number columns c e : ℕ)
    → AreEntries p samples before after states later number columns → IsFront later last → longer ≡ after ++ e ∷ [] → c ≡ get_or samples columns 0
    → ((s : State) → slice_get later number ≡ Some s → (row : ℕ) → IsEntry p (length samples) last s row c e)
    → AreEntries p samples before longer states last number (columns + 1)
entry_added p samples before after longer states later last number columns c e done more added sample right =
    let here : get_or longer (length before + columns) 0 ≡ e = last_is after longer e _ added (sym done.placed) in
    record {
      entries_stay = front_on before after longer done.entries_stay (e ∷ [], added);
      states_stay = front_on states later last done.states_stay more;
      placed = one_longer after longer e added ∙ omega (arith, done.placed);
      reads =
          one_more (λ k. (s : State) → slice_get states number ≡ Some s → (row : ℕ)
          → IsEntry p (length samples) last s row (get_or samples k 0) (entry_at longer (length before) k)) columns
          (λ s there row.
          subst (λ (x : ℕ). IsEntry p (length samples) last s row x (entry_at longer (length before) columns)) sample
          (subst (λ (x : ℕ). IsEntry p (length samples) last s row c x) (sym here) (right s (state_stays states later number s done.states_stay there) row)))
          (λ k h s there row.
          subst (λ (x : ℕ). IsEntry p (length samples) last s row (get_or samples k 0) x)
          (sym (entry_stays after longer (length before + k) (e ∷ [], added) (omega (arith, h, done.placed))))
          (entry_grows p (length samples) later last s row _ _ more (done.reads k h s there row)));
    }

-- behind the entries of a state and all columns that for the end of the text makes one more row
pub row_added : (p : MarkedPattern) (samples before after longer : List ℕ) (states later : List State) (number e : ℕ) (s : State)
    → IsDraft p samples before states number → AreEntries p samples before after states later number (length samples) → number < length states
    → slice_get later number ≡ Some s → (e == found_row) ≡ leaves s.last None (marks_in p s) true → longer ≡ after ++ e ∷ []
    → IsDraft p samples longer later (number + 1)
row_added p samples before after longer states later number e s draft done within there ends added =
    let end = length samples in
    let row = number * (end + 1) in
    let grown = front_on before after longer done.entries_stay (e ∷ [], added) in
    let was = state_was states later number s done.states_stay within there in
    let last : get_or longer (row + end) 0 ≡ e = last_is after longer e (row + end) added (omega (arith, draft.placed, done.placed)) in
    record {
      placed = one_longer after longer e added ∙ omega (arith, draft.placed, done.placed);
      rows =
          one_more (λ n. (t : State) × (slice_get later n ≡ Some t) × IsRow p samples longer later t (n * (end + 1))) number (
            s,
            there,
            record {
              ends = ap (λ (x : ℕ). x == found_row) last ∙ ends;
              reads = λ k h.
                  subst (λ (x : ℕ). IsEntry p end later s row (get_or samples k 0) x)
                  (ap (λ (i : ℕ). get_or after (i + k) 0) draft.placed
                  ∙ sym (entry_stays after longer (row + k) (e ∷ [], added) (omega (arith, h, draft.placed, done.placed))))
                  (done.reads k h s was row);
            },
          )
          (λ n h.
          let old = draft.rows n h in (
            old.0,
            state_stays states later n old.0 done.states_stay old.1,
            row_grows p samples before longer states later old.0 (n * (end + 1)) grown done.states_stay
                (omega (arith, mul-add-lt n (end + 1) end number h (omega arith), draft.placed)) old.2,
          ));
    }

-- where each state has its row, these are the rows of a table
pub rows_of_draft : (p : MarkedPattern) (samples entries : List ℕ) (states : List State) (number : ℕ) → IsDraft p samples entries states number
    → length states ≤ number → AreRows p samples entries states
rows_of_draft p samples entries states number draft all row s of_row =
    let n = of_row.0 in
    let have = draft.rows n (omega (arith, slice_get_within states n s of_row.2, all)) in
    let same : have.0 ≡ s = same_Some _ _ (sym have.1 ∙ of_row.2) in
    subst (λ (r : ℕ). IsRow p samples entries states s r) (sym of_row.1)
    (subst (λ (t : State). IsRow p samples entries states t (n * (length samples + 1))) same have.2)

-- the row of a place
row_is : (end number column : ℕ) → column < end + 1 → (number * (end + 1) + column) / (end + 1) * (end + 1) ≡ number * (end + 1)
row_is end number column within = ap (λ (n : ℕ). n * (end + 1)) (div-mul-add number (end + 1) column within)

-- the entry that leads to the row behind its own says the same as the place of that row
leads_on : (end row e : ℕ) → e ≡ row + (end + 1) → e < next_row → SaysSame end row e next_row
leads_on end row e is low =
    let not_found : (e == found_row) ≡ false = search rules in
    let no_next_row : (e == next_row) ≡ false = search rules in
    (not_found, ap (λ (b : Bool). if b then row + (end + 1) else e) no_next_row ∙ is)

-- a table in which an entry says instead that it leads on says the same
pub marked_same : (end number column place : ℕ) (es fs : List ℕ) → column < end + 1 → place ≡ number * (end + 1) + column → place < length es
    → get_or es place 0 ≡ number * (end + 1) + (end + 1) → number * (end + 1) + (end + 1) < next_row → fs ≡ set es place next_row
    → SayTheSame end es fs
marked_same end number column place es fs inside at within is low written i =
    let row = number * (end + 1) in
    ⊎_elim
    (λ here.
    let own : i / (end + 1) * (end + 1) ≡ row = ap (λ (j : ℕ). j / (end + 1) * (end + 1)) (here ∙ at) ∙ row_is end number column inside in
    let new : get_or fs i 0 ≡ next_row = ap (λ (l : List ℕ). get_or l i 0) written ∙ ap (λ (j : ℕ). get_or (set es place next_row) j 0) here
    ∙ get_or-set_same es place next_row 0 within in
    let old : get_or es i 0 ≡ row + (end + 1) = ap (λ (j : ℕ). get_or es j 0) here ∙ is in
    subst (λ (r : ℕ). SaysSame end r (get_or es i 0) (get_or fs i 0)) (sym own)
    (subst (λ (f : ℕ). SaysSame end row (get_or es i 0) f) (sym new) (leads_on end row (get_or es i 0) old (omega (arith, old, low)))))
    (λ other.
    let stays : get_or fs i 0 ≡ get_or es i 0 = ap (λ (l : List ℕ). get_or l i 0) written ∙ get_or-set_other es place i next_row 0 other in
    subst (λ (f : ℕ). SaysSame end (i / (end + 1) * (end + 1)) (get_or es i 0) f) (sym stays) (refl, refl))
    (cases_eq i place)

-- rows are right in a table that says the same
pub rows_stay : (p : MarkedPattern) (samples es fs : List ℕ) (states : List State) → SayTheSame (length samples) es fs → AreRows p samples es states
    → AreRows p samples fs states
rows_stay p samples es fs states same rows row s of_row =
    let end = length samples in
    let right = rows row s of_row in
    let says : (k : ℕ) → k < end + 1 → SaysSame end row (entry_at es row k) (entry_at fs row k) = λ k h.
    subst (λ (r : ℕ). SaysSame end r (entry_at es row k) (entry_at fs row k))
    (ap (λ (r : ℕ). (r + k) / (end + 1) * (end + 1)) of_row.1 ∙ row_is end of_row.0 k h ∙ sym of_row.1) (same (row + k)) in
    record {
      ends = sym (says end (omega arith)).0 ∙ right.ends;
      reads = λ k h.
          let here = says k (omega (arith, h)) in
          record {
            finds = sym here.0 ∙ (right.reads k h).finds;
            goes = λ none.
                let next = (right.reads k h).goes none in
                (next.0, next.1, subst (λ (r : ℕ). IsBehind p end states r next.0 (get_or samples k 0)) here.1 next.2);
          };
    }

-- and in its entries as they are written back
pub rows_written : (p : MarkedPattern) (samples es from fs written : List ℕ) (states : List State) (end : ℕ) → SayTheSame end from fs → end ≡ length samples
    → from ≡ es → written ≡ fs → AreRows p samples es states → AreRows p samples written states
rows_written p samples es from fs written states end same is_end is_from is_written rows =
    let says : SayTheSame (length samples) es written =
    subst (λ (n : ℕ). SayTheSame n es written) is_end
    (subst (λ (l : List ℕ). SayTheSame end l written) is_from (subst (λ (l : List ℕ). SayTheSame end from l) (sym is_written) same)) in
    rows_stay p samples es written states says rows
