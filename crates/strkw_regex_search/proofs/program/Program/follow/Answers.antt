use Rattle.std.proofs.Common.{◌≡◌, ◌≤◌, ◌<◌, ◌+◌, ℕ, suc, true, false, Bool, ◌&&◌, ◌||◌, List, [], ◌∷◌, length, drop, drop-cons, take, set, take-suc-set}
use Rattle.std.proofs.Common.{drop-set-lt, take-append-drop, get_or, slice_get, Option, refl, sym, ap, subst, ◌∙◌, true≢false, arith}
use Rattle.std.proofs.lemmas.List.{append_assoc, set-get_or}
use Rattle.strkw_regex_search.specs.declared.code.Instruction.{Instruction as CodeInstruction}
use Rattle.strkw_regex_search.specs.declared.code.Instruction.TheVariants.{Read, Peek, Turn}
use Rattle.strkw_charset.specs.declared.tree.CharSet.{CharSet}
use Rattle.strkw_regex_search.specs.declared.code.Turn.{Turn as CodeTurn}
use Rattle.strkw_regex_search.specs.declared.program.Program.{Program}
use Rattle.strkw_regex_search.specs.declared.walk.Walk.{Walk as CodeWalk}
use Rattle.strkw_regex_core.specs.machine.Program.{Instruction, read, read_count}
use Rattle.strkw_regex_search.specs.machine.Instructions.{turn_instruction, read_instruction}
use Rattle.strkw_regex_search.specs.machine.Walk.{Walked, Following, over, followed}
use Rattle.strkw_regex_core.specs.machine.Positions.{classes}
use Rattle.strkw_regex_search.specs.machine.Machine.{pattern_of, program_of, class_reads, following_of}
use Rattle.strkw_regex_search.proofs.Programs.{with_marks}
use Rattle.strkw_regex_search.proofs.Machines.{there, one_mark_more, from_class, from_peek, from_turn, from_end, none_peeked, none_read}
use Rattle.strkw_regex_search.proofs.Machines.{marks_are_reads}
use Rattle.strkw_regex_search.proofs.Machines.{few_marks, within_at, peeked_within, followed_reading, followed_peeking, followed_turned}
use Rattle.strkw_regex_search.proofs.program.Program.follow.Goals.{in-Read, in-Peek, in-Turn, then-enters-mark, else-enters-mark}
use Rattle.strkw_regex_search.proofs.program.Program.follow.Goals as goal

pub loop-instruction-init : goal.loop-instruction-init
loop-instruction-init c =
    let p = c.args.self.now in
    record {
      counted = omega (arith, marks_are_reads p);
      followed = ap (λ (s : Following). followed c.args.last c.args.next (program_of p) s c.args.marks.now) (sym (c.begin_forth.ensures.following true));
      around = omega (arith, c.begin_forth.ensures.around);
    }

pub bounds-reads-class : goal.bounds-reads-class
bounds-reads-class c =
    let p = c.args.self.now in
    let end = ap length c.deref-instruction-items.ensures.value in
    let one : c.in-Read.class < length p.code.classes.items =
    within_at (length p.code.classes.items) p.code.instructions.items c.loop-instruction.instruction-index c.in-Read.class c.in-Read.again c.in-Read.optional _
    (omega (arith, end, c.loop-instruction-test.true)) (there _ _ _ _ c.deref-instruction-items.ensures.value c.in-Read.is) p.within in
    omega (arith, one, c.requires.enough)

pub bounds-reads-class-in-Peek : goal.bounds-reads-class-in-Peek
bounds-reads-class-in-Peek c =
    let p = c.args.self.now in
    let end = ap length c.deref-instruction-items.ensures.value in
    let one : c.in-Peek.class < length p.code.classes.items =
    peeked_within (length p.code.classes.items) p.code.instructions.items c.loop-instruction.instruction-index c.in-Peek.class _
    (omega (arith, end, c.loop-instruction-test.true)) (there _ _ _ _ c.deref-instruction-items.ensures.value c.in-Peek.is) p.within in
    omega (arith, one, c.requires.enough)

-- a mark is left for the class
module _ (p : Program) (k : ℕ) (items : List CodeInstruction) (same : items ≡ p.code.instructions.items) (within : k < length items)
    (class : ℕ) (again optional : Bool) (here : get_or items k (Read 0 false false) ≡ Read class again optional)
    (at : ℕ) (counted : at + read_count (drop k (program_of p)) ≡ p.marks) where
  -- with its mark, those before it and those behind it are all
  pub one_more_mark : at + 1 + read_count (drop (suc k) (program_of p)) ≡ p.marks
  one_more_mark = one_mark_more p k (omega (arith, ap length same, within)) class again optional (there _ _ _ _ same here) at counted

  -- so a list of all marks has one for it
  pub has_mark : (n : ℕ) → classes (pattern_of p) ≤ n → at < n
  has_mark n h = omega (arith, one_more_mark, p.counted, h)

pub bounds-marks-at : goal.bounds-marks-at
bounds-marks-at c =
    has_mark c.args.self.now c.loop-instruction.instruction-index _ c.deref-instruction-items.ensures.value c.loop-instruction-test.true
    c.in-Read.class c.in-Read.again c.in-Read.optional c.in-Read.is c.loop-instruction.at c.loop-instruction.invariant.counted
    (length c.loop-instruction.marks) (omega (arith, c.loop-instruction.auto.marks, c.requires.fits))

pub bounds-marks-at-then-enters-mark : goal.bounds-marks-at-then-enters-mark
bounds-marks-at-then-enters-mark c =
    has_mark c.args.self.now c.loop-instruction.instruction-index _ c.deref-instruction-items.ensures.value c.loop-instruction-test.true
    c.in-Read.class c.in-Read.again c.in-Read.optional c.in-Read.is c.loop-instruction.at c.loop-instruction.invariant.counted
    (length c.loop-instruction.marks) (omega (arith, c.loop-instruction.auto.marks, c.requires.fits))

pub overflow_add-at : goal.overflow_add-at
overflow_add-at c =
    let few : c.loop-instruction.at < 5200 =
    has_mark c.args.self.now c.loop-instruction.instruction-index _ c.deref-instruction-items.ensures.value c.loop-instruction-test.true
    c.in-Read.class c.in-Read.again c.in-Read.optional c.in-Read.is c.loop-instruction.at c.loop-instruction.invariant.counted
    5200 (few_marks c.args.self.now) in
    omega (arith, few)

pub step_over-enters-requires : goal.step_over-enters-requires
step_over-enters-requires c =
    let end = ap length c.deref-instruction-items.ensures.value in
    record { around = omega (arith, end, c.args.self.now.few, c.loop-instruction.invariant.around, c.loop-instruction-test.true) }

-- where a way comes to a class or goes on from its mark, that it comes again need not ask for the mark
comes_again : (enters mark again : Bool) → (enters || mark) ≡ true → (enters || again) ≡ (enters || (again && mark))
comes_again true mark again some = refl
comes_again false true true some = refl
comes_again false true false some = refl
comes_again false false again some = absurd (true≢false (sym some))

-- and that it goes behind the class need not ask whether it comes
goes_behind : (enters mark optional : Bool) → (enters || mark) ≡ true → (optional || mark) ≡ ((optional && enters) || mark)
goes_behind true mark true some = refl
goes_behind true mark false some = refl
goes_behind false true true some = refl
goes_behind false true false some = refl
goes_behind false false optional some = absurd (true≢false (sym some))

-- where neither is so, the class has no mark, and gets none
no_mark : (enters mark : Bool) → (enters || mark) ≡ false → mark ≡ false
no_mark true mark none = absurd (true≢false none)
no_mark false mark none = none

-- so no mark comes from it, whether it is read again or not
none_comes : (enters mark again reads_it : Bool) → (enters || mark) ≡ false → false ≡ ((enters || (again && mark)) && reads_it)
none_comes true mark again reads_it none = absurd (true≢false none)
none_comes false true again reads_it none = absurd (true≢false none)
none_comes false false true reads_it none = refl
none_comes false false false reads_it none = refl

-- and none goes behind it
goes_nowhere : (enters mark optional : Bool) → (enters || mark) ≡ false → enters ≡ ((optional && enters) || mark)
goes_nowhere true mark optional none = absurd (true≢false none)
goes_nowhere false true optional none = absurd (true≢false none)
goes_nowhere false false true none = refl
goes_nowhere false false false none = refl

-- one instruction more is followed
module _ (p : Program) (k at : ℕ) (within : k < length p.code.instructions.items) (last next : Option ℕ) (enters : Bool) (old : CodeWalk) (all : Walked)
    (marks : List Bool)
    (h : all ≡ with_marks last next (take at marks) (followed last next (drop k (program_of p)) (following_of enters old) (drop at marks))) where
  -- one more is the next place
  next_place : k + 1 ≡ suc k
  next_place = omega arith

  -- and the next mark
  next_mark : at + 1 ≡ suc at
  next_mark = omega arith

  -- it is a turn
  pub turn_followed : (t : CodeTurn) (comes : Bool) (new : CodeWalk) → get_or p.code.instructions.items k (Read 0 false false) ≡ Turn t
      → ((m : Bool) → following_of comes new ≡ over last next (turn_instruction t) m (following_of enters old))
      → all ≡ with_marks last next (take at marks) (followed last next (drop (k + 1) (program_of p)) (following_of comes new) (drop at marks))
  turn_followed t comes new here behind =
      rw next_place
      (h
      ∙ ap (λ (is : List Instruction). with_marks last next (take at marks) (followed last next is (following_of enters old) (drop at marks)))
      (from_turn p k within t here)
      ∙ ap (with_marks last next (take at marks)) (followed_turned last next t (drop (suc k) (program_of p)) (drop at marks) _ _ behind))

  -- it looks at the next character
  pub peek_followed : (class : ℕ) (reads_it : Bool) → get_or p.code.instructions.items k (Read 0 false false) ≡ Peek class
      → reads_it ≡ class_reads next (slice_get p.code.classes.items class)
      → all ≡ with_marks last next (take at marks) (followed last next (drop (k + 1) (program_of p)) (following_of (enters && reads_it) old) (drop at marks))
  peek_followed class reads_it here reads_is =
      rw next_place
      (h
      ∙ ap (λ (is : List Instruction). with_marks last next (take at marks) (followed last next is (following_of enters old) (drop at marks)))
      (from_peek p k within class here)
      ∙ ap (with_marks last next (take at marks))
      (followed_peeking last next (slice_get p.code.classes.items class) reads_it (drop (suc k) (program_of p)) (drop at marks)
      (following_of enters old) reads_is))

  -- it reads a class
  pub class_followed : (class : ℕ) (again optional reads_it behind comes : Bool) (new : CodeWalk)
      → get_or p.code.instructions.items k (Read 0 false false) ≡ Read class again optional
      → ((n : Bool) (rs : List CharSet) → following_of comes new ≡ over last next (read again optional n rs) (get_or marks at false) (following_of enters old))
      → reads_it ≡ class_reads next (slice_get p.code.classes.items class)
      → behind ≡ ((enters || (again && get_or marks at false)) && reads_it) → at < length marks
      → all ≡ with_marks last next (take (at + 1) (set marks at behind))
      (followed last next (drop (k + 1) (program_of p)) (following_of comes new) (drop (at + 1) (set marks at behind)))
  class_followed class again optional reads_it behind comes new here forwards reads_is behind_is marked =
      let rest = drop (suc k) (program_of p) in
      let first = read_instruction again optional (slice_get p.code.classes.items class) in
      let walk = followed last next rest (following_of comes new) (drop (suc at) marks) in
      rw (next_place, next_mark)
      (h
      ∙ ap (λ (is : List Instruction). with_marks last next (take at marks) (followed last next is (following_of enters old) (drop at marks)))
      (from_class p k within class again optional here)
      ∙ ap (λ (ms : List Bool). with_marks last next (take at marks) (followed last next (first ∷ rest) (following_of enters old) ms))
      (drop-cons marks at false marked)
      ∙ ap (with_marks last next (take at marks))
      (followed_reading last next (slice_get p.code.classes.items class) again optional (get_or marks at false) reads_it behind rest (drop (suc at) marks) _ _
      forwards reads_is behind_is)
      ∙ ap (λ (ms : List Bool). record { leaves = walk.leaves; marks = ms }) (sym (append_assoc (take at marks) (behind ∷ []) walk.marks))
      ∙ ap (λ (ms : List Bool). with_marks last next ms walk) (sym (take-suc-set marks at behind marked))
      ∙ ap (λ (ms : List Bool). with_marks last next (take (suc at) (set marks at behind)) (followed last next rest (following_of comes new) ms))
      (sym (drop-set-lt (suc at) marks at behind (omega arith))))

  -- where a way comes to a class, or goes on from it
  pub class_come_to : (class : ℕ) (again optional reads_it : Bool) → get_or p.code.instructions.items k (Read 0 false false) ≡ Read class again optional
      → reads_it ≡ class_reads next (slice_get p.code.classes.items class) → (enters || get_or marks at false) ≡ true → at < length marks
      → all ≡ with_marks last next (take (at + 1) (set marks at ((enters || again) && reads_it)))
      (followed last next (drop (k + 1) (program_of p)) (following_of (optional || get_or marks at false) old)
      (drop (at + 1) (set marks at ((enters || again) && reads_it))))
  class_come_to class again optional reads_it here reads_is some marked =
      let mark = get_or marks at false in
      class_followed class again optional reads_it ((enters || again) && reads_it) (optional || mark) old here
      (λ n rs. ap (λ (b : Bool). following_of b old) (goes_behind enters mark optional some)) reads_is
      (ap (λ (b : Bool). b && reads_it) (comes_again enters mark again some)) marked

  -- and where none does
  pub class_passed : (class : ℕ) (again optional reads_it : Bool) → get_or p.code.instructions.items k (Read 0 false false) ≡ Read class again optional
      → reads_it ≡ class_reads next (slice_get p.code.classes.items class) → (enters || get_or marks at false) ≡ false → at < length marks
      → all ≡ with_marks last next (take (at + 1) marks)
      (followed last next (drop (k + 1) (program_of p)) (following_of enters old) (drop (at + 1) marks))
  class_passed class again optional reads_it here reads_is none marked =
      let mark = get_or marks at false in
      let same : set marks at false ≡ marks = ap (set marks at) (sym (no_mark enters mark none)) ∙ set-get_or marks at false in
      subst (λ (ms : List Bool). all ≡ with_marks last next (take (at + 1) ms)
      (followed last next (drop (k + 1) (program_of p)) (following_of enters old) (drop (at + 1) ms))) same
      (class_followed class again optional reads_it false enters old here
      (λ n rs. ap (λ (b : Bool). following_of b old) (goes_nowhere enters mark optional none))
      reads_is (none_comes enters mark again reads_it none) marked)

pub loop-instruction-preserved : goal.loop-instruction-preserved
loop-instruction-preserved c =
    let p = c.args.self.now in
    let k = c.loop-instruction.instruction-index in
    let at = c.loop-instruction.at in
    let items = c.deref-instruction-items.ensures.value in
    let within : k < length p.code.instructions.items = omega (arith, ap length items, c.loop-instruction-test.true) in
    let next : k + 1 ≡ suc k = omega arith in
    elim c.match-instruction.branch [
      | in-Read w ↦
          let here = there _ _ k _ items w.in-Read.is in
          let more = one_more_mark p k _ items c.loop-instruction-test.true w.in-Read.class w.in-Read.again w.in-Read.optional w.in-Read.is at
          c.loop-instruction.invariant.counted in
          let marked : at < length c.loop-instruction.marks =
          has_mark p k _ items c.loop-instruction-test.true w.in-Read.class w.in-Read.again w.in-Read.optional w.in-Read.is at
          c.loop-instruction.invariant.counted
          (length c.loop-instruction.marks) (omega (arith, c.loop-instruction.auto.marks, c.requires.fits)) in
          let there_is : w.in-Read.class < length p.code.classes.items =
          within_at (length p.code.classes.items) p.code.instructions.items k w.in-Read.class w.in-Read.again w.in-Read.optional _ within here p.within in
          rw (w.walk-is, w.enters-is, w.marks-is, w.at-is)
          (record {
            counted = ap (λ (n : ℕ). at + 1 + read_count (drop n (program_of p))) next ∙ more;
            followed =
                elim w.if-enters-mark.branch [
                  | then-enters-mark v ↦
                      rw (v.enters-is, v.marks-is)
                      (class_come_to p k at within c.args.last c.args.next c.loop-instruction.enters c.loop-instruction.walk _ c.loop-instruction.marks
                      c.loop-instruction.invariant.followed w.in-Read.class w.in-Read.again w.in-Read.optional
                      (get_or c.args.reads.now w.in-Read.class false) here (c.requires.reads w.in-Read.class there_is) v.if-enters-mark.true marked)
                  | else-enters-mark v ↦
                      rw (v.enters-is, v.marks-is)
                      (class_passed p k at within c.args.last c.args.next c.loop-instruction.enters c.loop-instruction.walk _ c.loop-instruction.marks
                      c.loop-instruction.invariant.followed w.in-Read.class w.in-Read.again w.in-Read.optional
                      (get_or c.args.reads.now w.in-Read.class false) here (c.requires.reads w.in-Read.class there_is) v.if-enters-mark.false marked)
                ];
            around = omega (arith, c.loop-instruction.invariant.around);
          })
      | in-Peek w ↦
          let here = there _ _ k _ items w.in-Peek.is in
          let there_is : w.in-Peek.class < length p.code.classes.items =
          peeked_within (length p.code.classes.items) p.code.instructions.items k w.in-Peek.class _ within here p.within in
          rw (w.walk-is, w.enters-is, w.marks-is, w.at-is)
          (record {
            counted =
                ap (λ (n : ℕ). at + read_count (drop n (program_of p))) next
                ∙ omega (
                  arith,
                  c.loop-instruction.invariant.counted,
                  ap read_count (from_peek p k within w.in-Peek.class here),
                  none_peeked (slice_get p.code.classes.items w.in-Peek.class) (drop (suc k) (program_of p)),
                );
            followed =
                peek_followed p k at within c.args.last c.args.next c.loop-instruction.enters c.loop-instruction.walk _ c.loop-instruction.marks
                c.loop-instruction.invariant.followed
                w.in-Peek.class (get_or c.args.reads.now w.in-Peek.class false) here (c.requires.reads w.in-Peek.class there_is);
            around = omega (arith, c.loop-instruction.invariant.around);
          })
      | in-Turn w ↦
          let here = there _ _ k _ items w.in-Turn.is in
          rw (w.walk-is, w.enters-is, w.marks-is, w.at-is)
          (record {
            counted =
                ap (λ (n : ℕ). at + read_count (drop n (program_of p))) next
                ∙ omega (
                  arith,
                  c.loop-instruction.invariant.counted,
                  ap read_count (from_turn p k within w.in-Turn.turn here),
                  none_read w.in-Turn.turn
                      (drop (suc k) (program_of p)),
                );
            followed =
                turn_followed p k at within c.args.last c.args.next c.loop-instruction.enters c.loop-instruction.walk _ c.loop-instruction.marks
                c.loop-instruction.invariant.followed
                w.in-Turn.turn w.step_over-enters.result w.step_over-enters.new.self here w.step_over-enters.ensures.following;
            around = omega (arith, c.loop-instruction.invariant.around, w.step_over-enters.ensures.around);
          })
    ]

module _ (p : Program) (k at : ℕ) (last next : Option ℕ) (enters : Bool) (w : CodeWalk) (all : Walked) (marks : List Bool)
    (end : length p.code.instructions.items ≤ k)
    (h : all ≡ with_marks last next (take at marks) (followed last next (drop k (program_of p)) (following_of enters w) (drop at marks))) where
  -- behind the last instruction the walk is what all of it was to be
  pub all_followed : all ≡ record { leaves = enters; marks = marks }
  all_followed =
      h ∙ ap (λ (is : List Instruction). with_marks last next (take at marks) (followed last next is (following_of enters w) (drop at marks)))
      (from_end p.code.classes.items p.code.instructions.items k end)
      ∙ ap (λ (ms : List Bool). record { leaves = enters; marks = ms }) (take-append-drop at marks)

pub returns-clause-left : goal.returns-clause-left
returns-clause-left c =
    let end = ap length c.deref-instruction-items.ensures.value in
    sym (ap (λ (v : Walked). v.leaves)
    (all_followed c.args.self.now c.loop-instruction.instruction-index c.loop-instruction.at c.args.last c.args.next c.loop-instruction.enters
    c.loop-instruction.walk _ c.loop-instruction.marks
    (omega (arith, end, c.loop-instruction-test.false)) c.loop-instruction.invariant.followed))

pub returns-clause-marks : goal.returns-clause-marks
returns-clause-marks c =
    let end = ap length c.deref-instruction-items.ensures.value in
    sym (ap (λ (v : Walked). v.marks)
    (all_followed c.args.self.now c.loop-instruction.instruction-index c.loop-instruction.at c.args.last c.args.next c.loop-instruction.enters
    c.loop-instruction.walk _ c.loop-instruction.marks
    (omega (arith, end, c.loop-instruction-test.false)) c.loop-instruction.invariant.followed))
