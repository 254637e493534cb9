-- The steps of a search: each character takes at most twice those of the pattern.
use Rattle.std.proofs.Common.{◌≡◌, ℕ, ◌+◌, ◌*◌, ◌≤◌, Bool, true, false, ◌||◌, List, [], ◌∷◌, length, Option, Some, None, if◌then◌else◌, refl, sym, ap}
use Rattle.std.proofs.Common.{◌∙◌, arith}
use Rattle.std.proofs.lemmas.List.{append-nil}
use Rattle.strkw_regex_core.specs.machine.MarkedPattern.{MarkedPattern}
use Rattle.strkw_regex_core.specs.machine.Positions.{leaves, step, marks_of}
use Rattle.strkw_regex_search.specs.machine.Search.{search_from}
use Rattle.strkw_regex_core.specs.machine.Program.{Instruction, program}
use Rattle.strkw_regex_core.specs.machine.ProgramSteps.{instruction_steps, steps_of, steps}
use Rattle.strkw_regex_search.specs.machine.Walk.{first_or_false, Asked, Walked, Following, start_following, back_over, over, left_by, marks_behind}
use Rattle.strkw_regex_search.specs.machine.Walk.{asked, followed, walked}
use Rattle.strkw_regex_search.specs.machine.Counted.{Counted, after, asking, following, walking, counted_search, IsSearchedWithin}
use Rattle.strkw_regex_search.proofs.Programs.{walked_is}
use Rattle.strkw_regex_search.proofs.Marked.{step_program}

module _ (b a : Option ℕ) where
  -- backwards, what comes of the counted walk is what comes of the walk
  asking_result : (is : List Instruction) (ms : List Bool) → (asking b a is ms).result ≡ asked b a is ms
  asking_result [] ms = refl
  asking_result (i ∷ is) ms = ap (back_over b a i (first_or_false ms)) (asking_result is (marks_behind b a i ms))

  -- it takes the steps of the instructions
  asking_steps : (is : List Instruction) (ms : List Bool) → (asking b a is ms).steps ≡ steps_of is
  asking_steps [] ms = refl
  asking_steps (i ∷ is) ms = ap (λ (n : ℕ). instruction_steps i + n) (asking_steps is (marks_behind b a i ms))

  -- forwards, what comes of the counted walk is what comes of the walk
  following_result : (is : List Instruction) (s : Following) (ms : List Bool) → (following b a is s ms).result ≡ followed b a is s ms
  following_result [] s ms = refl
  following_result (i ∷ is) s ms =
      ap (left_by b a i (first_or_false ms) s) (following_result is (over b a i (first_or_false ms) s) (marks_behind b a i ms))

  -- it takes the steps of the instructions
  following_steps : (is : List Instruction) (s : Following) (ms : List Bool) → (following b a is s ms).steps ≡ steps_of is
  following_steps [] s ms = refl
  following_steps (i ∷ is) s ms =
      ap (λ (n : ℕ). instruction_steps i + n) (following_steps is (over b a i (first_or_false ms) s) (marks_behind b a i ms))

  -- so it is of both together
  walking_result : (is : List Instruction) (ms : List Bool) → (walking b a is ms).result ≡ walked b a is ms
  walking_result is ms =
      following_result is (start_following (asking b a is ms).result.again) ms
      ∙ ap (λ (s : Asked). followed b a is (start_following s.again) ms) (asking_result is ms)

  -- which take twice the steps of the instructions
  pub walking_steps : (is : List Instruction) (ms : List Bool) → (walking b a is ms).steps ≡ 2 * steps_of is
  walking_steps is ms =
      omega (arith, asking_steps is ms, following_steps is (start_following (asking b a is ms).result.again) ms)

  -- of the program of a pattern, with its marks
  -- such a walk comes to whether the pattern is left, and to its marks after a step
  pub walk_of : (p : MarkedPattern) → (walking b a (program p) (marks_of p)).result ≡ record { leaves = leaves b a p true; marks = marks_of (step b a p true) }
  walk_of p =
      walking_result (program p) (marks_of p)
      ∙ ap (walked b a (program p)) (sym (append-nil (marks_of p)))
      ∙ walked_is b a p []
      ∙ ap (λ (ms : List Bool). record { leaves = leaves b a p true; marks = ms }) (append-nil (marks_of (step b a p true)))

-- one character more
-- a search comes to true where the pattern is left before it, and else to what the rest does
result_on : (x : Counted Walked) (rest : Counted Bool) (l f : Bool) → x.result.leaves ≡ l → rest.result ≡ f
    → (if x.result.leaves then record { result = true; steps = x.steps } else after x.steps rest).result ≡ (l || f)
result_on x rest true f e g = rw e refl
result_on x rest false f e g = rw e g

-- and takes no more steps than are the most of the walk and of the rest
steps_on : (y : Bool) (n most more : ℕ) (rest : Counted Bool) → n ≤ most → rest.steps ≤ more
    → (if y then record { result = true; steps = n } else after n rest).steps ≤ most + more
steps_on true n most more rest h g = omega (arith, h)
steps_on false n most more rest h g = omega (arith, h, g)

-- the counted search by the program of a pattern comes to what the search does
searching_result : (p : MarkedPattern) (last : Option ℕ) (text : List ℕ)
    → (counted_search (program p) (marks_of p) last text).result ≡ search_from p last text
searching_result p last [] = ap (λ (w : Walked). w.leaves) (walk_of last None p)
searching_result p last (c ∷ cs) =
    let one = walking last (Some c) (program p) (marks_of p) in
    let behind = step last (Some c) p true in
    result_on one (counted_search (program p) one.result.marks (Some c) cs) _ _
    (ap (λ (w : Walked). w.leaves) (walk_of last (Some c) p))
    (ap (λ (w : Walked). (counted_search (program p) w.marks (Some c) cs).result) (walk_of last (Some c) p)
    ∙ ap (λ (is : List Instruction). (counted_search is (marks_of behind) (Some c) cs).result) (sym (step_program last (Some c) p true))
    ∙ searching_result behind (Some c) cs)

-- for each character and the end it takes at most so many steps, if each walk does
searching_steps : (most : ℕ) (is : List Instruction) (ms : List Bool) (last : Option ℕ) (text : List ℕ) → 2 * steps_of is ≤ most
    → (counted_search is ms last text).steps ≤ most * (length text + 1)
searching_steps most is ms last [] h = omega (arith, h, walking_steps last None is ms)
searching_steps most is ms last (c ∷ cs) h =
    let one = walking last (Some c) is ms in
    let rest = searching_steps most is one.result.marks (Some c) cs h in
    let more = steps_on one.result.leaves one.steps most (most * (length cs + 1)) (counted_search is one.result.marks (Some c) cs)
    (omega (arith, walking_steps last (Some c) is ms, h)) rest in
    omega (arith, more)

-- a search is within each limit that is at least twice the steps of its pattern
pub searched_within : (most : ℕ) (p : MarkedPattern) (text : List ℕ) → 2 * steps p ≤ most → IsSearchedWithin most p text
searched_within most p text h = record {
  answer = searching_result p None text;
  steps = searching_steps most (program p) (marks_of p) None text h;
}
