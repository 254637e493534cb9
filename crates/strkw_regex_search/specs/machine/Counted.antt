-- The search with its steps counted: at each instruction of the program, backwards and then
-- forwards, as much as it takes.
use Rattle.std.specs.Prelude.{◌≡◌, ℕ, suc, ◌+◌, ◌*◌, ◌≤◌, Bool, true, false, ◌||◌, List, [], ◌∷◌}
use Rattle.std.specs.Prelude.{◌++◌, length, Option, Some, None, if◌then◌else◌}
use Rattle.strkw_regex_core.specs.machine.MarkedPattern.{MarkedPattern}
use Rattle.strkw_regex_core.specs.machine.LeadingLookahead.{Part}
use Rattle.strkw_regex_core.specs.machine.OneCharLookahead.{are_told}
use Rattle.strkw_regex_core.specs.machine.Mirror.{along, target, sought_in}
use Rattle.strkw_regex_core.specs.machine.Positions.{marks_of, mark_classes}
use Rattle.strkw_regex_search.specs.machine.Search.{search_from, found_in}
use Rattle.strkw_regex_search.specs.machine.Seeking.{Seeking, row_answer}
use Rattle.strkw_regex_search.specs.machine.OracleMarks.{told_by}
use Rattle.strkw_regex_core.specs.machine.Program.{Instruction, program}
use Rattle.strkw_regex_core.specs.machine.ProgramSteps.{instruction_steps}
use Rattle.strkw_regex_search.specs.machine.Walk.{first_or_false, Asked, Walked, Following}
use Rattle.strkw_regex_search.specs.machine.Walk.{start_following, back_over, over, left_by}
use Rattle.strkw_regex_search.specs.machine.Walk.{marks_behind}

-- what some steps come to, and how many they are
pub record Counted (A : Type 0) : Type 0 where
  pub result : A
  pub steps : ℕ

-- after some steps more
abbrev pub after : {A : Type 0} → ℕ → Counted A → Counted A
after n x = record { result = x.result; steps = n + x.steps }

module _ (b a : Option ℕ) where
  -- backwards (`asked`)
  abbrev pub asking : List Instruction → List Bool → Counted Asked
  asking [] ms = record {
    result = record { ends = true; goes_on = false; around = []; again = [] };
    steps = 0;
  }
  asking (i ∷ is) ms =
      let rest = asking is (marks_behind b a i ms) in
      record {
        result = back_over b a i (first_or_false ms) rest.result;
        steps = instruction_steps i + rest.steps;
      }

  -- forwards (`followed`)
  abbrev pub following : List Instruction → Following → List Bool → Counted Walked
  following [] s ms = record { result = record { leaves = s.enters; marks = ms }; steps = 0 }
  following (i ∷ is) s ms =
      let rest = following is (over b a i (first_or_false ms) s) (marks_behind b a i ms) in
      record {
        result = left_by b a i (first_or_false ms) s rest.result;
        steps = instruction_steps i + rest.steps;
      }

  -- both (`walked`)
  abbrev pub walking : List Instruction → List Bool → Counted Walked
  walking is ms =
      let back = asking is ms in
      after back.steps (following is (start_following back.result.again) ms)

-- whether a program with these marks is found in the rest of a text, behind the character `last`
abbrev pub counted_search : List Instruction → List Bool → Option ℕ → List ℕ → Counted Bool
counted_search is ms last [] =
    let one = walking last None is ms in
    record { result = one.result.leaves; steps = one.steps }
counted_search is ms last (c ∷ cs) =
    let one = walking last (Some c) is ms in
    if one.result.leaves then record { result = true; steps = one.steps }
    else after one.steps (counted_search is one.result.marks (Some c) cs)

-- The search by the program of a pattern comes to what the definition does, in at most so many
-- steps for each character and the end of the text.
pub record IsSearchedWithin (most : ℕ) (p : MarkedPattern) (text : List ℕ) : Type 0 where
  pub answer : (counted_search (program p) (marks_of p) None text).result ≡ search_from p None text
  pub steps : (counted_search (program p) (marks_of p) None text).steps ≤ most * (length text + 1)

-- The search whose marks are told by rows, with its steps counted: at each place, whether the
-- pattern ends there.
module _ (rows : List (List Bool)) (ts : List (Option ℕ)) where
  abbrev pub ending : MarkedPattern → Option ℕ → List ℕ → Counted (List Bool)
  ending p last [] =
      let q = told_by (row_answer rows 0) ts p in
      let one = walking last None (program q) (marks_of q) in
      record { result = one.result.leaves ∷ []; steps = one.steps }
  ending p last (c ∷ cs) =
      let q = told_by (row_answer rows (suc (length cs))) ts p in
      let one = walking last (Some c) (program q) (marks_of q) in
      let rest = ending (mark_classes one.result.marks q) (Some c) cs in
      record { result = one.result.leaves ∷ rest.result; steps = one.steps + rest.steps }

-- the rows of some, each told by those before it, behind others
abbrev pub fill_rows : List (List Bool) → List ℕ → List Seeking → Counted (List (List Bool))
fill_rows rows text [] = record { result = rows; steps = 0 }
fill_rows rows text (x ∷ xs) =
    let row = ending rows x.told x.pattern None (along x.backward text) in
    after row.steps (fill_rows (rows ++ (row.result ∷ [])) text xs)

-- and of one more, told by them
abbrev pub seeking_by : List Seeking → Seeking → List ℕ → Counted (List Bool)
seeking_by xs x text =
    let rows = fill_rows [] text xs in
    after rows.steps (ending rows.result x.told x.pattern None (along x.backward text))

-- one of them holds
abbrev pub is_any : List Bool → Bool
is_any [] = false
is_any (b ∷ bs) = b || is_any bs

-- Some searches, each told by those before it, come to what the definition does, in at most so many
-- steps for each character and the end of the text.
pub record IsSoughtWithin (most : ℕ) (p : MarkedPattern) (text : List ℕ) : Type 0 where
  pub searches : List Seeking
  pub last : Seeking
  pub answer : is_any (seeking_by searches last text).result ≡ found_in p text
  pub steps : (seeking_by searches last text).steps ≤ most * (length text + 1)

-- by whether the next character tells what lookaheads look for
abbrev pub IsWithin : Bool → ℕ → MarkedPattern → List ℕ → Type 0
IsWithin true = IsSearchedWithin
IsWithin false = IsSoughtWithin

-- The same of parts: each within its share of so many steps.
abbrev pub AreSearchedWithin : ℕ → List Part → List ℕ → Type 0
AreSearchedWithin most [] text = Unit {0}
AreSearchedWithin most (x ∷ xs) text = (one : ℕ) × (others : ℕ) × (one + others ≤ most)
    × IsWithin (are_told (target x.pattern)) one (target x.pattern) (sought_in x.pattern text)
    × AreSearchedWithin others xs text
