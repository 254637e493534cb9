-- Walks of the code over its instructions, from one to the next.
use Rattle.std.proofs.Common.{◌≡◌, ℕ, zero, suc, ◌+◌, ◌<◌, ◌≤◌, nat_lt, Bool, true, false, ◌&&◌, ◌||◌, List, [], ◌∷◌, ◌++◌, length, drop, drop-cons}
use Rattle.std.proofs.Common.{drop_of_length-le, get_or, get_or-set_same, get_or-set_other, set, ne_of_lt, Option, Some, None, slice_get, take}
use Rattle.std.proofs.Common.{true≢false, refl, sym, ap, subst, ◌∙◌, arith}
use Rattle.std.proofs.Math.Seq.{get_or-append_seam}
use Rattle.std.proofs.lemmas.Bool.{ltb-true}
use Rattle.std.proofs.lemmas.List.{get_or_append_left}
use Rattle.std.proofs.lemmas.Option.{none-some, same_Some}
use Rattle.strkw_charset.specs.declared.tree.CharSet.{CharSet}
use Rattle.strkw_regex_core.specs.machine.Positions.{reads, classes}
use Rattle.strkw_regex_core.specs.machine.Program.{Instruction, read, peek, star_begin, plus_begin, read_count, is_loop, has_loop}
use Rattle.strkw_regex_core.specs.Size.{max_steps}
use Rattle.strkw_regex_search.specs.machine.Walk.{first_or_false, below, Asked, back_over, asked, marks_behind, Following, Walked, over, left_by}
use Rattle.strkw_regex_search.specs.machine.Walk.{followed}
use Rattle.strkw_regex_search.specs.machine.Instructions.{turn_instruction, read_instruction, peek_instruction, instruction_of, instructions}
use Rattle.strkw_regex_search.specs.machine.Instructions.{are_within}
use Rattle.strkw_regex_search.specs.machine.Machine.{pattern_of, program_of, class_reads}
use Rattle.strkw_regex_search.specs.declared.code.Class.{Class}
use Rattle.strkw_regex_search.specs.declared.code.Turn.{Turn as CodeTurn}
use Rattle.strkw_regex_search.specs.declared.code.Turn.TheVariants as turn
use Rattle.strkw_regex_search.specs.declared.code.Instruction.{Instruction as CodeInstruction}
use Rattle.strkw_regex_search.specs.declared.code.Instruction.TheVariants.{Read, Peek, Turn}
use Rattle.strkw_regex_search.specs.declared.program.Program.{Program}
use Rattle.strkw_regex_search.proofs.Few.{reads_are_classes}
use Rattle.strkw_regex_search.proofs.Programs.{with_marks}
use Rattle.strkw_regex_search.proofs.Written.{drop_instructions, instruction_count, within_rest}
use Rattle.strkw_charset.proofs.Booleans.{and_left}
use Rattle.strkw_charset.proofs.Lists.{one_more}

-- what stands from a place on begins with the instruction that stands there
pub from_place : (cs : List Class) (is : List CodeInstruction) (k : ℕ) (d : CodeInstruction) → k < length is
    → drop k (instructions cs is) ≡ instruction_of cs (get_or is k d) ∷ drop (suc k) (instructions cs is)
from_place cs is k d h =
    drop_instructions cs k is ∙ ap (instructions cs) (drop-cons is k d h)
    ∙ ap (λ (js : List Instruction). instruction_of cs (get_or is k d) ∷ js) (sym (drop_instructions cs (suc k) is))

-- and from the end on nothing stands
pub from_end : (cs : List Class) (is : List CodeInstruction) (k : ℕ) → length is ≤ k → drop k (instructions cs is) ≡ []
from_end cs is k h = drop_of_length-le (instructions cs is) {i = k} (omega (arith, instruction_count cs is, h))

-- an instruction at a place is there too in a list that is the same
pub there : (xs ys : List CodeInstruction) (k : ℕ) (i : CodeInstruction) → xs ≡ ys → get_or xs k (Read 0 false false) ≡ i
    → get_or ys k (Read 0 false false) ≡ i
there xs ys k i same here = ap (λ (zs : List CodeInstruction). get_or zs k (Read 0 false false)) (sym same) ∙ here

-- a class that is read from is there
pub within_at : (n : ℕ) (is : List CodeInstruction) (k class : ℕ) (again optional : Bool) (d : CodeInstruction) → k < length is
    → get_or is k d ≡ Read class again optional → are_within n is ≡ true → class < n
within_at n is k class again optional d h here within =
    ltb-true class n
    (and_left (nat_lt class n) _
    (ap (λ (i : CodeInstruction). are_within n (i ∷ drop (suc k) is)) (sym here) ∙ ap (are_within n) (sym (drop-cons is k d h))
    ∙ within_rest n k is within))

-- and so is one that is peeked at
pub peeked_within : (n : ℕ) (is : List CodeInstruction) (k class : ℕ) (d : CodeInstruction) → k < length is
    → get_or is k d ≡ Peek class → are_within n is ≡ true → class < n
peeked_within n is k class d h here within =
    ltb-true class n
    (and_left (nat_lt class n) _
    (ap (λ (i : CodeInstruction). are_within n (i ∷ drop (suc k) is)) (sym here) ∙ ap (are_within n) (sym (drop-cons is k d h))
    ∙ within_rest n k is within))

-- classes and others
-- an instruction that reads a class is one more that reads
pub one_read : (o : Option Class) (again optional : Bool) (is : List Instruction) → read_count (read_instruction again optional o ∷ is) ≡ read_count is + 1
one_read None again optional is = refl
one_read (Some c) again optional is = refl

-- one that peeks at a class changes nothing of how many do
pub none_peeked : (o : Option Class) (is : List Instruction) → read_count (peek_instruction o ∷ is) ≡ read_count is
none_peeked None is = refl
none_peeked (Some c) is = refl

-- and any other neither
pub none_read : (t : CodeTurn) (is : List Instruction) → read_count (turn_instruction t ∷ is) ≡ read_count is
none_read turn.Start is = refl
none_read _ is = refl

-- with one instruction more, no fewer read
more_reads : (i : Instruction) (is : List Instruction) → read_count is ≤ read_count (i ∷ is)
more_reads (read again optional n rs) is = omega arith
more_reads _ is = omega arith

-- from a place on no more instructions read than in all
pub fewer_reads : (k : ℕ) (is : List Instruction) → read_count (drop k is) ≤ read_count is
fewer_reads zero is = omega arith
fewer_reads (suc k) [] = omega arith
fewer_reads (suc k) (i ∷ is) = omega (arith, fewer_reads k is, more_reads i is)

-- where neither of two holds, the first does not, and the second does not
neither_first : (x y : Bool) → (x || y) ≡ false → x ≡ false
neither_first true y h = absurd (true≢false h)
neither_first false y h = refl

-- where neither of two is so, the second is not
neither_second : (x y : Bool) → (x || y) ≡ false → y ≡ false
neither_second true y h = absurd (true≢false h)
neither_second false y h = h

-- neither of two that do not hold
pub neither : (x y : Bool) → x ≡ false → y ≡ false → (x || y) ≡ false
neither true y h g = absurd (true≢false h)
neither false y h g = g

-- no loop stands before the next place, where none stands before this one and at it
pub none_before_next : (cs : List Class) (is : List CodeInstruction) (k : ℕ) (d : CodeInstruction) → k < length is
    → has_loop (take k (instructions cs is)) ≡ false → is_loop (instruction_of cs (get_or is k d)) ≡ false
    → has_loop (take (suc k) (instructions cs is)) ≡ false
none_before_next cs [] k d h before none = absurd (omega (arith, h))
none_before_next cs (i ∷ is) zero d h before none = neither _ _ none refl
none_before_next cs (i ∷ is) (suc k) d h before none =
    neither _ _ (neither_first _ _ before) (none_before_next cs is k d (omega (arith, h)) (neither_second (is_loop (instruction_of cs i)) _ before) none)

-- the marks behind the first
drop_below : (n : ℕ) (ms : List Bool) → drop n (below ms) ≡ drop (suc n) ms
drop_below zero [] = refl
drop_below (suc n) [] = refl
drop_below n (m ∷ ms) = refl

-- what is known of the loops is known at each place before the first
pub known_before_loops : (b a : Option ℕ) (is : List Instruction) (ms : List Bool) (n k at : ℕ) → has_loop (take n is) ≡ false → k ≤ n
    → at + read_count (drop k is) ≡ read_count is → (asked b a (drop k is) (drop at ms)).again ≡ (asked b a is ms).again
known_before_loops b a is ms n zero at none before counted =
    let first : at ≡ 0 = omega (arith, counted) in
    ap (λ (j : ℕ). (asked b a is (drop j ms)).again) first
known_before_loops b a [] ms n (suc k) at none before counted = refl
known_before_loops b a (i ∷ is) ms zero (suc k) at none before counted = absurd (omega (arith, before))
known_before_loops b a (star_begin ∷ is) ms (suc n) (suc k) at none before counted = absurd (true≢false none)
known_before_loops b a (plus_begin ∷ is) ms (suc n) (suc k) at none before counted = absurd (true≢false none)
known_before_loops b a (read again optional x rs ∷ is) ms (suc n) (suc k) zero none before counted =
    absurd (omega (arith, counted, fewer_reads k is))
known_before_loops b a (read again optional x rs ∷ is) ms (suc n) (suc k) (suc at) none before counted =
    ap (λ (l : List Bool). (asked b a (drop k is) l).again) (sym (drop_below at ms))
    ∙ known_before_loops b a is (below ms) n k at none (omega (arith, before)) (omega (arith, counted))
known_before_loops b a (_ ∷ is) ms (suc n) (suc k) at none before counted = known_before_loops b a is ms n k at none (omega (arith, before)) counted

-- no more instructions read than there are
pub reads_within : (is : List Instruction) → read_count is ≤ length is
reads_within [] = omega arith
reads_within (read again optional n rs ∷ is) = omega (arith, reads_within is)
reads_within (_ ∷ is) = omega (arith, reads_within is)

-- there is a mark for each class that is read, and not more than instructions
pub marks_are_reads : (p : Program) → p.marks ≡ read_count (program_of p)
marks_are_reads p = p.counted ∙ sym (reads_are_classes (pattern_of p)) ∙ ap read_count (sym p.right)

-- the pattern of a program has no more classes than a pattern may have steps
pub few_marks : (p : Program) → classes (pattern_of p) ≤ max_steps
few_marks p =
    omega (arith, marks_are_reads p, p.counted, reads_within (program_of p), instruction_count p.code.classes.items p.code.instructions.items, p.few)

-- the class of no sets, not negated, reads nothing
none_reads : (a : Option ℕ) → reads a false [] ≡ false
none_reads None = refl
none_reads (Some c) = refl

module _ (p : Program) (k : ℕ) (within : k < length p.code.instructions.items) where
  -- the program from place k on begins with the instruction that stands there
  from_instruction : (i : CodeInstruction) → get_or p.code.instructions.items k (Read 0 false false) ≡ i
      → drop k (program_of p) ≡ instruction_of p.code.classes.items i ∷ drop (suc k) (program_of p)
  from_instruction i here =
      from_place p.code.classes.items p.code.instructions.items k (Read 0 false false) within
      ∙ ap (λ (j : CodeInstruction). instruction_of p.code.classes.items j ∷ drop (suc k) (program_of p)) here

  -- the same where that reads a class
  pub from_class : (class : ℕ) (again optional : Bool) → get_or p.code.instructions.items k (Read 0 false false) ≡ Read class again optional
      → drop k (program_of p) ≡ read_instruction again optional (slice_get p.code.classes.items class) ∷ drop (suc k) (program_of p)
  from_class class again optional here = from_instruction (Read class again optional) here

  -- and where it peeks at one
  pub from_peek : (class : ℕ) → get_or p.code.instructions.items k (Read 0 false false) ≡ Peek class
      → drop k (program_of p) ≡ peek_instruction (slice_get p.code.classes.items class) ∷ drop (suc k) (program_of p)
  from_peek class here = from_instruction (Peek class) here

  -- and where it reads none
  pub from_turn : (t : CodeTurn) → get_or p.code.instructions.items k (Read 0 false false) ≡ Turn t
      → drop k (program_of p) ≡ turn_instruction t ∷ drop (suc k) (program_of p)
  from_turn t here = from_instruction (Turn t) here

  -- marks are left for what stands from there on
  -- going backwards, one at least is left where a class is read
  pub one_mark_less : (class : ℕ) (again optional : Bool) → get_or p.code.instructions.items k (Read 0 false false) ≡ Read class again optional
      → (at : ℕ) → at + read_count (drop (suc k) (program_of p)) ≡ p.marks → 1 ≤ at
  one_mark_less class again optional here at counted =
      omega (
        arith,
        counted,
        marks_are_reads p,
        fewer_reads k (program_of p),
        ap read_count (from_class class again optional here),
        one_read
            (slice_get p.code.classes.items class) again optional (drop (suc k) (program_of p)),
      )

  -- going forwards, a class that is read takes one mark of those that are left
  pub one_mark_more : (class : ℕ) (again optional : Bool) → get_or p.code.instructions.items k (Read 0 false false) ≡ Read class again optional
      → (at : ℕ) → at + read_count (drop k (program_of p)) ≡ p.marks → at + 1 + read_count (drop (suc k) (program_of p)) ≡ p.marks
  one_mark_more class again optional here at counted =
      omega (
        arith,
        counted,
        ap read_count (from_class class again optional here),
        one_read (slice_get p.code.classes.items class) again optional
            (drop (suc k) (program_of p)),
      )

-- one class more is asked about the next character
pub one_more_class : (next : Option ℕ) (cs : List Class) (rs : List Bool) (n : ℕ) (answer : Bool) (c : Class) → slice_get cs n ≡ Some c
    → answer ≡ reads next c.negated c.sets.items → n < length rs
    → ((k : ℕ) → k < n → get_or rs k false ≡ class_reads next (slice_get cs k))
    → (k : ℕ) → k < n + 1 → get_or (set rs n answer) k false ≡ class_reads next (slice_get cs k)
one_more_class next cs rs n answer c here is long before =
    one_more (λ (k : ℕ). get_or (set rs n answer) k false ≡ class_reads next (slice_get cs k)) n
    (get_or-set_same rs n answer false long ∙ is ∙ sym (ap (class_reads next) here))
    (λ k h. get_or-set_other rs n k answer false (ne_of_lt h) ∙ before k h)

-- and so is one where the answers become one more
pub one_more_answer : (next : Option ℕ) (cs : List Class) (rs : List Bool) (n : ℕ) (answer : Bool) (c : Class) → slice_get cs n ≡ Some c
    → answer ≡ reads next c.negated c.sets.items → length rs ≡ n
    → ((k : ℕ) → k < n → get_or rs k false ≡ class_reads next (slice_get cs k))
    → (k : ℕ) → k < n + 1 → get_or (rs ++ answer ∷ []) k false ≡ class_reads next (slice_get cs k)
one_more_answer next cs rs n answer c here is long before =
    one_more (λ (k : ℕ). get_or (rs ++ answer ∷ []) k false ≡ class_reads next (slice_get cs k)) n
    (ap (λ (k : ℕ). get_or (rs ++ answer ∷ []) k false) (sym long) ∙ get_or-append_seam rs answer [] false ∙ is ∙ sym (ap (class_reads next) here))
    (λ k h. get_or_append_left rs (answer ∷ []) false k (omega (arith, h, long)) ∙ before k h)

-- what holds of each of a list and its place, and of what is added to it
-- holds of each of the longer list
pub one_pushed : {A : Type 0} (P : ℕ → A → Type 0) (xs : List A) (x : A) → ((k : ℕ) (y : A) → slice_get xs k ≡ Some y → P k y) → P (length xs) x
    → (k : ℕ) (y : A) → slice_get (xs ++ x ∷ []) k ≡ Some y → P k y
one_pushed P [] x before last zero y there = subst (P 0) (same_Some _ _ there) last
one_pushed P [] x before last (suc k) y there = absurd (none-some y there)
one_pushed P (z ∷ xs) x before last zero y there = before 0 y there
one_pushed P (z ∷ xs) x before last (suc k) y there = one_pushed (λ (n : ℕ). P (suc n)) xs x (λ n w h. before (suc n) w h) last k y there

module _ (b a : Option ℕ) where
  -- backwards over a class
  pub asked_reading : (o : Option Class) (again optional m : Bool) (is : List Instruction) (ms : List Bool) (s t : Asked)
      → s ≡ asked b a is ms → ((n : Bool) (rs : List CharSet) → t ≡ back_over b a (read again optional n rs) m s)
      → t ≡ asked b a (read_instruction again optional o ∷ is) (m ∷ ms)
  asked_reading None again optional m is ms s t e h = h false [] ∙ ap (back_over b a (read again optional false []) m) e
  asked_reading (Some c) again optional m is ms s t e h =
      h c.negated c.sets.items ∙ ap (back_over b a (read again optional c.negated c.sets.items) m) e

  -- backwards over a class that is peeked at
  pub asked_peeking : (o : Option Class) (reads_it : Bool) (is : List Instruction) (ms : List Bool) (s t : Asked)
      → s ≡ asked b a is ms → reads_it ≡ class_reads a o
      → ((n : Bool) (rs : List CharSet) (m : Bool) → reads_it ≡ reads a n rs → t ≡ back_over b a (peek n rs) m s)
      → t ≡ asked b a (peek_instruction o ∷ is) ms
  asked_peeking None reads_it is ms s t e r h =
      h false [] (first_or_false ms) (r ∙ sym (none_reads a)) ∙ ap (back_over b a (peek false []) (first_or_false ms)) e
  asked_peeking (Some c) reads_it is ms s t e r h =
      h c.negated c.sets.items (first_or_false ms) r ∙ ap (back_over b a (peek c.negated c.sets.items) (first_or_false ms)) e

  -- any other instruction leaves the marks
  marks_stay : (t : CodeTurn) (ms : List Bool) → marks_behind b a (turn_instruction t) ms ≡ ms
  marks_stay turn.Start ms = refl
  marks_stay _ ms = refl

  -- and adds no mark to what is left of the walk
  nothing_left : (t : CodeTurn) (m : Bool) (s : Following) (w : Walked) → left_by b a (turn_instruction t) m s w ≡ w
  nothing_left turn.Start m s w = refl
  nothing_left _ m s w = refl

  -- backwards over any other instruction
  pub asked_turned : (t : CodeTurn) (is : List Instruction) (ms : List Bool) (s u : Asked) → s ≡ asked b a is ms
      → ((m : Bool) → u ≡ back_over b a (turn_instruction t) m s) → u ≡ asked b a (turn_instruction t ∷ is) ms
  asked_turned t is ms s u e h =
      h (first_or_false ms) ∙ ap (back_over b a (turn_instruction t) (first_or_false ms)) (e ∙ ap (asked b a is) (sym (marks_stay t ms)))

  -- forwards over a class, whose mark becomes another
  followed_read : (again optional n m reads_it behind : Bool) (rs : List CharSet) (is : List Instruction) (ms : List Bool) (s t : Following)
      → t ≡ over b a (read again optional n rs) m s → reads_it ≡ reads a n rs → behind ≡ ((s.enters || (again && m)) && reads_it)
      → followed b a (read again optional n rs ∷ is) s (m ∷ ms) ≡ with_marks b a (behind ∷ []) (followed b a is t ms)
  followed_read again optional n m reads_it behind rs is ms s t h e f =
      ap (λ (u : Following). with_marks b a (((s.enters || (again && m)) && reads a n rs) ∷ []) (followed b a is u ms)) (sym h)
      ∙ ap (λ (y : Bool). with_marks b a (y ∷ []) (followed b a is t ms))
      (ap (λ (y : Bool). (s.enters || (again && m)) && y) (sym e) ∙ sym f)

  -- the same over a class of the code, which may be missing
  pub followed_reading : (o : Option Class) (again optional m reads_it behind : Bool) (is : List Instruction) (ms : List Bool) (s t : Following)
      → ((n : Bool) (rs : List CharSet) → t ≡ over b a (read again optional n rs) m s)
      → reads_it ≡ class_reads a o → behind ≡ ((s.enters || (again && m)) && reads_it)
      → followed b a (read_instruction again optional o ∷ is) s (m ∷ ms) ≡ with_marks b a (behind ∷ []) (followed b a is t ms)
  followed_reading None again optional m reads_it behind is ms s t h e f =
      followed_read again optional false m reads_it behind [] is ms s t (h false []) (e ∙ sym (none_reads a)) f
  followed_reading (Some c) again optional m reads_it behind is ms s t h e f =
      followed_read again optional c.negated m reads_it behind c.sets.items is ms s t (h c.negated c.sets.items) e f

  -- forwards over a class that is peeked at
  pub followed_peeking : (o : Option Class) (reads_it : Bool) (is : List Instruction) (ms : List Bool) (s : Following)
      → reads_it ≡ class_reads a o
      → followed b a (peek_instruction o ∷ is) s ms
      ≡ followed b a is (record { enters = s.enters && reads_it; around = s.around; again = s.again }) ms
  followed_peeking None reads_it is ms s r =
      ap (λ (y : Bool). followed b a is (record { enters = s.enters && y; around = s.around; again = s.again }) ms) (none_reads a ∙ sym r)
  followed_peeking (Some c) reads_it is ms s r =
      ap (λ (y : Bool). followed b a is (record { enters = s.enters && y; around = s.around; again = s.again }) ms) (sym r)

  -- forwards over any other instruction
  pub followed_turned : (t : CodeTurn) (is : List Instruction) (ms : List Bool) (s u : Following)
      → ((m : Bool) → u ≡ over b a (turn_instruction t) m s) → followed b a (turn_instruction t ∷ is) s ms ≡ followed b a is u ms
  followed_turned t is ms s u h =
      nothing_left t (first_or_false ms) s _
      ∙ ap (λ (v : Following). followed b a is v (marks_behind b a (turn_instruction t) ms)) (sym (h (first_or_false ms)))
      ∙ ap (followed b a is u) (marks_stay t ms)
