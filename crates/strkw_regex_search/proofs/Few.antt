-- What the instructions of a program have of the pattern that they are written for.
use Rattle.std.proofs.Common.{◌≡◌, ◌+◌, ◌≤◌, Bool, true, false, ◌||◌, List, [], ◌∷◌, ◌++◌, length, refl, ap, ◌∙◌, arith}
use Rattle.std.proofs.lemmas.Bool.Decides.{nat_tests}
use Rattle.strkw_charset.specs.declared.tree.CharSet.{CharSet}
use Rattle.strkw_regex_core.specs.Tree.{Look}
use Rattle.strkw_regex_core.specs.machine.MarkedPattern.{MarkedPattern, empty, class, look, cat, alt, star, plus, lookbehind, lookahead}
use Rattle.strkw_regex_core.specs.machine.Positions.{classes}
use Rattle.strkw_regex_core.specs.machine.Boundaries.{sees_boundary, has_boundary}
use Rattle.strkw_regex_core.specs.machine.Program.{Instruction, read, assert, peek, fork, other, join, star_begin, star_end, plus_begin, plus_end, look_begin}
use Rattle.strkw_regex_core.specs.machine.Program.{look_end, glance, program, alternatives, read_count, asks_word, asks_boundary}
use Rattle.strkw_regex_core.specs.machine.ProgramSteps.{instruction_steps, steps_of, steps}
use Rattle.strkw_regex_core.proofs.Options.{by_class, by_option}

-- each instruction takes a step at least
one_at_least : (i : Instruction) → 1 ≤ instruction_steps i
one_at_least (read again optional n rs) = omega arith
one_at_least (peek n rs) = omega arith
one_at_least _ = omega arith

-- instructions are no more than the steps that they take
few_of : (is : List Instruction) → length is ≤ steps_of is
few_of [] = omega arith
few_of (i ∷ is) = omega (arith, one_at_least i, few_of is)

-- the program of a pattern has no more instructions than the pattern has steps
pub few_instructions : (p : MarkedPattern) → length (program p) ≤ steps p
few_instructions p = few_of (program p)

-- What is said of a pattern and of instructions, where it goes over from the parts to the whole.
pub record GoesOver (R : MarkedPattern → List Instruction → Type 0) : Type 0 where
  pub of_empty : R empty []
  pub of_class : (m n : Bool) (rs : List CharSet) → R (class m n rs) (read false false n rs ∷ [])
  pub of_look : (l : Look) → R (look l) (assert l ∷ [])
  pub of_cat : (p q : MarkedPattern) (xs ys : List Instruction) → R p xs → R q ys → R (cat p q) (xs ++ ys)
  pub of_option : (m n : Bool) (rs : List CharSet) → R (alt empty (class m n rs)) (read false true n rs ∷ [])
  pub of_alt : (p q : MarkedPattern) (xs ys : List Instruction) → R p xs → R q ys → R (alt p q) (fork ∷ (xs ++ (other ∷ (ys ++ (join ∷ [])))))
  pub of_beside : (p q : MarkedPattern) (xs ys : List Instruction) → R p xs → R q ys → R (alt p q) (xs ++ (other ∷ ys))
  pub of_class_star : (m n : Bool) (rs : List CharSet) → R (star (class m n rs)) (read true true n rs ∷ [])
  pub of_star : (p : MarkedPattern) (xs : List Instruction) → R p xs → R (star p) (star_begin ∷ (xs ++ (star_end ∷ [])))
  pub of_class_plus : (m n : Bool) (rs : List CharSet) → R (plus (class m n rs)) (read true false n rs ∷ [])
  pub of_plus : (p : MarkedPattern) (xs : List Instruction) → R p xs → R (plus p) (plus_begin ∷ (xs ++ (plus_end ∷ [])))
  pub of_behind : (n : Bool) (p : MarkedPattern) (xs : List Instruction) → R p xs → R (lookbehind n p) (look_begin n ∷ (xs ++ (look_end n ∷ [])))
  pub of_ahead : (n : Bool) (p : MarkedPattern) → R (lookahead n p) (look_begin n ∷ (glance p ++ (look_end n ∷ [])))

-- It holds then of each pattern and its program.
module _ (R : MarkedPattern → List Instruction → Type 0) (parts : GoesOver R) where
  -- where it holds of a pattern, it holds of its star
  star_by_parts : (p : MarkedPattern) → R p (program p) → R (star p) (program (star p))
  star_by_parts p body = by_class (R (star p)) p _ _ (λ m n rs e. rw e (parts.of_class_star m n rs)) (parts.of_star p (program p) body)

  -- and of its plus
  plus_by_parts : (p : MarkedPattern) → R p (program p) → R (plus p) (program (plus p))
  plus_by_parts p body = by_class (R (plus p)) p _ _ (λ m n rs e. rw e (parts.of_class_plus m n rs)) (parts.of_plus p (program p) body)

  -- where it holds of the first as it stands among alternatives, and of the second, it holds of both
  alt_by_parts : (p q : MarkedPattern) → R p (alternatives p) → R q (program q) → R (alt p q) (program (alt p q))
  alt_by_parts p q first second =
      by_option (R (alt p q)) p q _ _ (λ m n rs e f. rw (e, f) (parts.of_option m n rs)) (parts.of_alt p q (alternatives p) (program q) first second)

  -- it holds of each pattern with its program, by itself and among alternatives
  pub both_by_parts : (p : MarkedPattern) → R p (program p) × R p (alternatives p)
  both_by_parts empty = (parts.of_empty, parts.of_empty)
  both_by_parts (class m n rs) = (parts.of_class m n rs, parts.of_class m n rs)
  both_by_parts (look l) = (parts.of_look l, parts.of_look l)
  both_by_parts (cat p q) =
      let both = parts.of_cat p q (program p) (program q) (both_by_parts p).0 (both_by_parts q).0 in
      (both, both)
  both_by_parts (alt p q) = (
    alt_by_parts p q (both_by_parts p).1 (both_by_parts q).0,
    parts.of_beside p q (alternatives p) (program q) (both_by_parts p).1 (both_by_parts q).0,
  )
  both_by_parts (star p) = (star_by_parts p (both_by_parts p).0, star_by_parts p (both_by_parts p).0)
  both_by_parts (plus p) = (plus_by_parts p (both_by_parts p).0, plus_by_parts p (both_by_parts p).0)
  both_by_parts (lookbehind n p) = let body = parts.of_behind n p (program p) (both_by_parts p).0 in (body, body)
  both_by_parts (lookahead n p) = (parts.of_ahead n p, parts.of_ahead n p)

-- the numbers of classes that two lists of instructions read add up
more_reads : (xs ys : List Instruction) → read_count (xs ++ ys) ≡ read_count xs + read_count ys
more_reads [] ys = omega arith
more_reads (read again optional n rs ∷ xs) ys = omega (arith, more_reads xs ys)
more_reads (_ ∷ xs) ys = more_reads xs ys

-- what a lookahead looks for reads none
glance_reads : (p : MarkedPattern) → read_count (glance p) ≡ 0
glance_reads empty = refl
glance_reads (class m n rs) = refl
glance_reads (look l) = refl
glance_reads (cat p q) = glance_reads q
glance_reads (alt p q) =
    omega (
      arith,
      more_reads (glance p) (other ∷ (glance q ++ (join ∷ []))),
      more_reads (glance q) (join ∷ []),
      glance_reads p,
      glance_reads q,
    )
glance_reads (star p) = refl
glance_reads (plus p) = refl
glance_reads (lookbehind n p) = refl
glance_reads (lookahead n p) = omega (arith, more_reads (glance p) (look_end n ∷ []), glance_reads p)

-- the program of a pattern reads as many classes as stand in the pattern, outside lookaheads
pub reads_are_classes : (p : MarkedPattern) → read_count (program p) ≡ classes p
reads_are_classes p =
    (both_by_parts
    (λ q is. read_count is ≡ classes q)
    (record {
      of_empty = refl;
      of_class = λ m n rs. refl;
      of_look = λ l. refl;
      of_cat = λ q r xs ys e f. omega (arith, more_reads xs ys, e, f);
      of_option = λ m n rs. refl;
      of_alt = λ q r xs ys e f. omega (arith, more_reads xs (other ∷ (ys ++ (join ∷ []))), more_reads ys (join ∷ []), e, f);
      of_beside = λ q r xs ys e f. omega (arith, more_reads xs (other ∷ ys), e, f);
      of_class_star = λ m n rs. refl;
      of_star = λ q xs e. omega (arith, more_reads xs (star_end ∷ []), e);
      of_class_plus = λ m n rs. refl;
      of_plus = λ q xs e. omega (arith, more_reads xs (plus_end ∷ []), e);
      of_behind = λ n q xs e. omega (arith, more_reads xs (look_end n ∷ []), e);
      of_ahead = λ n q. omega (arith, more_reads (glance q) (look_end n ∷ []), glance_reads q);
    })
    p).0

-- an answer or false is the answer
or_nothing : (x : Bool) → (x || false) ≡ x
or_nothing true = refl
or_nothing false = refl

-- `\b` or `\B` stands in two lists together exactly where it stands in one of them
more_asked : (xs ys : List Instruction) → asks_boundary (xs ++ ys) ≡ (asks_boundary xs || asks_boundary ys)
more_asked [] ys = refl
more_asked (assert l ∷ xs) ys =
    ap (λ (x : Bool). asks_word l || x) (more_asked xs ys) ∙ regroup (asks_word l) (asks_boundary xs) (asks_boundary ys)
  where
    -- in a choice of three the brackets may be moved
    regroup : (x y z : Bool) → (x || (y || z)) ≡ ((x || y) || z)
    regroup x y z = grind (arith, nat_tests)
more_asked (_ ∷ xs) ys = more_asked xs ys

-- the same by what is known of each list
both_ask : (xs ys : List Instruction) (x y : Bool) → asks_boundary xs ≡ x → asks_boundary ys ≡ y → asks_boundary (xs ++ ys) ≡ (x || y)
both_ask xs ys x y e f = more_asked xs ys ∙ rw (e, f) refl

-- where the second has neither, the first alone decides
first_asks : (xs ys : List Instruction) (x : Bool) → asks_boundary xs ≡ x → asks_boundary ys ≡ false → asks_boundary (xs ++ ys) ≡ x
first_asks xs ys x e f = both_ask xs ys x false e f ∙ or_nothing x

-- the same of what a lookahead looks for
glance_asks : (p : MarkedPattern) → asks_boundary (glance p) ≡ sees_boundary p
glance_asks empty = refl
glance_asks (class m n rs) = refl
glance_asks (look l) = or_nothing (asks_word l)
glance_asks (cat p q) = glance_asks q
glance_asks (alt p q) =
    both_ask (glance p) (other ∷ (glance q ++ (join ∷ []))) _ _ (glance_asks p) (first_asks (glance q) (join ∷ []) _ (glance_asks q) refl)
glance_asks (star p) = refl
glance_asks (plus p) = refl
glance_asks (lookbehind n p) = refl
glance_asks (lookahead n p) = first_asks (glance p) (look_end n ∷ []) _ (glance_asks p) refl

-- `\b` or `\B` stands in the program of a pattern exactly where it stands in the pattern
pub boundary_is_asked : (p : MarkedPattern) → asks_boundary (program p) ≡ has_boundary p
boundary_is_asked p =
    (both_by_parts
    (λ q is. asks_boundary is ≡ has_boundary q)
    (record {
      of_empty = refl;
      of_class = λ m n rs. refl;
      of_look = λ l. or_nothing (asks_word l);
      of_cat = λ q r xs ys e f. both_ask xs ys _ _ e f;
      of_option = λ m n rs. refl;
      of_alt = λ q r xs ys e f. both_ask xs (other ∷ (ys ++ (join ∷ []))) _ _ e (first_asks ys (join ∷ []) _ f refl);
      of_beside = λ q r xs ys e f. both_ask xs (other ∷ ys) _ _ e f;
      of_class_star = λ m n rs. refl;
      of_star = λ q xs e. first_asks xs (star_end ∷ []) _ e refl;
      of_class_plus = λ m n rs. refl;
      of_plus = λ q xs e. first_asks xs (plus_end ∷ []) _ e refl;
      of_behind = λ n q xs e. first_asks xs (look_end n ∷ []) _ e refl;
      of_ahead = λ n q. first_asks (glance q) (look_end n ∷ []) _ (glance_asks q) refl;
    })
    p).0
