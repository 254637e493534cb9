-- What is told of each class of a program is told of its pattern.
use Rattle.std.proofs.Common.{◌≡◌, ℕ, zero, suc, ◌<◌, nat_lt, Bool, true, ◌||◌, List, [], ◌∷◌, ◌++◌, Vec, Global, length, slice_get, subst, arith}
use Rattle.std.specs.List.{All, AllByRecursion}
use Rattle.std.proofs.lemmas.Bool.{ltb-true}
use Rattle.std.proofs.lemmas.List.Elements.{recursion_from_All}
use Rattle.strkw_charset.specs.declared.tree.CharSet.{CharSet}
use Rattle.strkw_regex_search.specs.declared.code.Class.{Class}
use Rattle.strkw_regex_search.specs.declared.code.Turn.{Turn as CodeTurn}
use Rattle.strkw_regex_search.specs.declared.code.Turn.TheVariants as turn
use Rattle.strkw_regex_search.specs.declared.code.Instruction.{Instruction as CodeInstruction}
use Rattle.strkw_regex_search.specs.declared.code.Instruction.TheVariants.{Read, Peek, Turn}
use Rattle.strkw_regex_core.specs.machine.MarkedPattern.{MarkedPattern, empty, class, look, cat, alt, star, plus, lookbehind, lookahead}
use Rattle.strkw_charset.specs.machine.CharClasses.{TellsSets}
use Rattle.strkw_regex_core.specs.machine.Boundaries.{sees_boundary, has_boundary}
use Rattle.strkw_ecma.specs.machine.Told.{TellsGlance, Tells}
use Rattle.strkw_charset.specs.Sets.{word_characters}
use Rattle.strkw_regex_core.specs.machine.Program.{Instruction, read, assert, peek, fork, other, join, star_begin, star_end, plus_begin, plus_end, look_begin}
use Rattle.strkw_regex_core.specs.machine.Program.{look_end, glance, program}
use Rattle.strkw_regex_search.specs.machine.Instructions.{turn_instruction, read_instruction, peek_instruction, instructions, are_within}
use Rattle.strkw_charset.proofs.Booleans.{and_left, and_right, or_left, or_right}
use Rattle.strkw_regex_search.proofs.Few.{GoesOver, both_by_parts}

-- the answers of the classes tell whether a character is read
abbrev pub IsTold : List (Vec CharSet Global) → Instruction → Type 0
IsTold known (read again optional n rs) = TellsSets known rs
IsTold known (assert l) = Unit {0}
IsTold known (peek n rs) = TellsSets known rs
IsTold known fork = Unit {0}
IsTold known other = Unit {0}
IsTold known join = Unit {0}
IsTold known star_begin = Unit {0}
IsTold known star_end = Unit {0}
IsTold known plus_begin = Unit {0}
IsTold known plus_end = Unit {0}
IsTold known (look_begin n) = Unit {0}
IsTold known (look_end n) = Unit {0}

-- they tell it of each of these instructions
abbrev pub AllTold : List (Vec CharSet Global) → List Instruction → Type 0
AllTold known is = AllByRecursion (IsTold known) is

-- what holds of all of two lists together holds of all of each
all_parts : {A : Type 0} (P : A → Type 0) (xs ys : List A) → AllByRecursion P (xs ++ ys) → AllByRecursion P xs × AllByRecursion P ys
all_parts P [] ys h = (tt, h)
all_parts P (x ∷ xs) ys h = ((h.0, (all_parts P xs ys h.1).0), (all_parts P xs ys h.1).1)

module _ (known : List (Vec CharSet Global)) where
  -- what is told of the instructions tells the pattern, if word characters are told where it asks about them
  abbrev AreTold : MarkedPattern → List Instruction → Type 0
  AreTold p is = AllTold known is → (has_boundary p ≡ true → TellsSets known word_characters) → Tells known p

  -- two patterns so told by their instructions are told, if word characters are where one asks
  told_parts : (p q : MarkedPattern) (xs ys : List Instruction) → AreTold p xs → AreTold q ys → AllTold known xs → AllTold known ys
      → ((has_boundary p || has_boundary q) ≡ true → TellsSets known word_characters) → Tells known p × Tells known q
  told_parts p q xs ys e f x y word =
      (e x (λ h. word (or_left _ _ h)), f y (λ h. word (or_right (has_boundary p) _ h)))

  -- a glance is told by its instructions, if word characters are told where it asks about them
  glance_told : (p : MarkedPattern) → AllTold known (glance p) → (sees_boundary p ≡ true → TellsSets known word_characters) → TellsGlance known p
  glance_told empty told word = tt
  glance_told (class m n rs) told word = told.0
  glance_told (look l) told word = word
  glance_told (cat p q) told word = glance_told q told word
  glance_told (alt p q) told word =
      let parts = all_parts (IsTold known) (glance p) (other ∷ (glance q ++ (join ∷ []))) told.1 in (
        glance_told p parts.0 (λ h. word (or_left _ _ h)),
        glance_told q (all_parts (IsTold known) (glance q) (join ∷ []) parts.1.1).0 (λ h. word (or_right (sees_boundary p) _ h)),
      )
  glance_told (star p) told word = tt
  glance_told (plus p) told word = tt
  glance_told (lookbehind n p) told word = tt
  glance_told (lookahead n p) told word = glance_told p (all_parts (IsTold known) (glance p) (look_end n ∷ []) told.1).0 word

  -- this goes over from the parts of a pattern to the whole
  all_told_by_parts : GoesOver AreTold
  all_told_by_parts = record {
    of_empty = λ told word. tt;
    of_class = λ m n rs told word. told.0;
    of_look = λ l told word. word;
    of_cat = λ p q xs ys e f told. told_parts p q xs ys e f (all_parts (IsTold known) xs ys told).0 (all_parts (IsTold known) xs ys told).1;
    of_option = λ m n rs told word. (tt, told.0);
    of_alt = λ p q xs ys e f told.
        let parts = all_parts (IsTold known) xs (other ∷ (ys ++ (join ∷ []))) told.1 in
        told_parts p q xs ys e f parts.0 (all_parts (IsTold known) ys (join ∷ []) parts.1.1).0;
    of_beside = λ p q xs ys e f told.
        let parts = all_parts (IsTold known) xs (other ∷ ys) told in
        told_parts p q xs ys e f parts.0 parts.1.1;
    of_class_star = λ m n rs told word. told.0;
    of_star = λ p xs e told. e (all_parts (IsTold known) xs (star_end ∷ []) told.1).0;
    of_class_plus = λ m n rs told word. told.0;
    of_plus = λ p xs e told. e (all_parts (IsTold known) xs (plus_end ∷ []) told.1).0;
    of_behind = λ n p xs e told. e (all_parts (IsTold known) xs (look_end n ∷ []) told.1).0;
    of_ahead = λ n p told. glance_told p (all_parts (IsTold known) (glance p) (look_end n ∷ []) told.1).0;
  }

  -- a pattern is told where the instructions of its program are, and word characters where it asks
  pub told : (p : MarkedPattern) → AllTold known (program p) → (has_boundary p ≡ true → TellsSets known word_characters) → Tells known p
  told p = (both_by_parts AreTold all_told_by_parts p).0

  -- where the sets of each class are told, an instruction that reads one of the classes is
  class_told : (again optional : Bool) (cs : List Class) (k : ℕ) → k < length cs → AllByRecursion (λ c. TellsSets known c.sets.items) cs
      → IsTold known (read_instruction again optional (slice_get cs k))
  class_told again optional [] k h all = absurd (omega (arith, h))
  class_told again optional (c ∷ cs) zero h all = all.0
  class_told again optional (c ∷ cs) (suc k) h all = class_told again optional cs k (omega (arith, h)) all.1

  -- and one that peeks at one
  class_peeked : (cs : List Class) (k : ℕ) → k < length cs → AllByRecursion (λ c. TellsSets known c.sets.items) cs
      → IsTold known (peek_instruction (slice_get cs k))
  class_peeked [] k h all = absurd (omega (arith, h))
  class_peeked (c ∷ cs) zero h all = all.0
  class_peeked (c ∷ cs) (suc k) h all = class_peeked cs k (omega (arith, h)) all.1

  -- an instruction that reads no class is told
  turn_told : (t : CodeTurn) → IsTold known (turn_instruction t)
  turn_told turn.Start = tt
  turn_told _ = tt

  -- instructions that read only classes of a list are told, where the sets of each are
  instructions_told : (cs : List Class) (is : List CodeInstruction) → are_within (length cs) is ≡ true → AllByRecursion (λ c. TellsSets known c.sets.items) cs
      → AllTold known (instructions cs is)
  instructions_told cs [] h all = tt
  instructions_told cs (Read k again optional ∷ is) h all = (
    class_told again optional cs k (ltb-true k (length cs) (and_left (nat_lt k (length cs)) _ h)) all,
    instructions_told cs is (and_right (nat_lt k (length cs)) _ h) all,
  )
  instructions_told cs (Peek k ∷ is) h all = (
    class_peeked cs k (ltb-true k (length cs) (and_left (nat_lt k (length cs)) _ h)) all,
    instructions_told cs is (and_right (nat_lt k (length cs)) _ h) all,
  )
  instructions_told cs (Turn t ∷ is) h all = (turn_told t, instructions_told cs is h all)

  -- where the sets of each class are told, the instructions are
  pub classes_told : (cs : List Class) (is : List CodeInstruction) → are_within (length cs) is ≡ true → All (λ c. TellsSets known c.sets.items) cs
      → AllTold known (instructions cs is)
  classes_told cs is h all = instructions_told cs is h (recursion_from_All _ cs all)

  -- and the pattern that they are written for
  pub pattern_told : (p : MarkedPattern) (cs : List Class) (is : List CodeInstruction) → instructions cs is ≡ program p → are_within (length cs) is ≡ true
      → All (λ c. TellsSets known c.sets.items) cs → (has_boundary p ≡ true → TellsSets known word_characters) → Tells known p
  pattern_told p cs is same h all = told p (subst (AllTold known) same (classes_told cs is h all))
