-- The program of a pattern: instructions one behind another, with no tree in them.
use Rattle.std.specs.Prelude.{ℕ, zero, suc, ◌+◌, Bool, true, false, ◌||◌, List, [], ◌∷◌, ◌++◌}
use Rattle.strkw_charset.specs.declared.tree.CharSet.{CharSet}
use Rattle.strkw_regex_core.specs.Tree.{Look, start, end, boundary, no_boundary}
use Rattle.strkw_regex_core.specs.machine.MarkedPattern.{MarkedPattern, empty}
use Rattle.strkw_regex_core.specs.machine.MarkedPattern.{class, look, cat, alt, star, plus}
use Rattle.strkw_regex_core.specs.machine.MarkedPattern.{lookbehind, lookahead}

pub data Instruction : Type 0 where
  -- One character of a class, which is negated or not. Where the first holds, once or more; where
  -- the second holds, or none.
  read : Bool → Bool → Bool → List CharSet → Instruction
  assert : Look → Instruction
  -- the next character is one of a class, which is negated or not
  peek : Bool → List CharSet → Instruction
  -- before the first of some alternatives, between two of them, and behind the last
  fork other join : Instruction
  -- before and behind what stands any number of times, or once or more
  star_begin star_end plus_begin plus_end : Instruction
  -- before and behind the pattern of a lookbehind or a lookahead, which is negated or not
  look_begin look_end : Bool → Instruction

-- of a class the first, of any other pattern the second
abbrev pub if_class : {A : Type 0} → MarkedPattern → (Bool → List CharSet → A) → A → A
if_class (class m n rs) f x = f n rs
if_class p f x = x

-- of two alternatives: where nothing or a class may stand, the first
abbrev pub if_option : {A : Type 0} → MarkedPattern → MarkedPattern → (Bool → List CharSet → A) → A → A
if_option empty q f x = if_class q f x
if_option p q f x = x

abbrev pub is_class : MarkedPattern → Bool
is_class p = if_class p (λ n rs. true) false

abbrev pub is_empty : MarkedPattern → Bool
is_empty empty = true
is_empty p = false

-- of what a lookahead looks for, where the next character tells it (`is_glance`)
abbrev pub glance : MarkedPattern → List Instruction
glance (class m n rs) = peek n rs ∷ []
glance (look l) = assert l ∷ []
glance (cat p q) = glance q
glance (alt p q) = fork ∷ (glance p ++ (other ∷ (glance q ++ (join ∷ []))))
glance (lookahead n p) = look_begin n ∷ (glance p ++ (look_end n ∷ []))
glance p = []

-- A class that is repeated, or that may be missing, is one instruction.
abbrev mutual
  pub program : MarkedPattern → List Instruction
  program empty = []
  program (class m n rs) = read false false n rs ∷ []
  program (look l) = assert l ∷ []
  program (cat p q) = program p ++ program q
  program (alt p q) =
      if_option p q (λ n rs. read false true n rs ∷ [])
      (fork ∷ (alternatives p ++ (other ∷ (program q ++ (join ∷ [])))))
  program (star p) = if_class p (λ n rs. read true true n rs ∷ [])
      (star_begin ∷ (program p ++ (star_end ∷ [])))
  program (plus p) = if_class p (λ n rs. read true false n rs ∷ [])
      (plus_begin ∷ (program p ++ (plus_end ∷ [])))
  program (lookbehind n p) = look_begin n ∷ (program p ++ (look_end n ∷ []))
  program (lookahead n p) = look_begin n ∷ (glance p ++ (look_end n ∷ []))

  -- the alternatives of more than two stand side by side
  pub alternatives : MarkedPattern → List Instruction
  alternatives (alt p q) = alternatives p ++ (other ∷ program q)
  alternatives empty = []
  alternatives (class m n rs) = read false false n rs ∷ []
  alternatives (look l) = assert l ∷ []
  alternatives (cat p q) = program p ++ program q
  alternatives (star p) = if_class p (λ n rs. read true true n rs ∷ [])
      (star_begin ∷ (program p ++ (star_end ∷ [])))
  alternatives (plus p) = if_class p (λ n rs. read true false n rs ∷ [])
      (plus_begin ∷ (program p ++ (plus_end ∷ [])))
  alternatives (lookbehind n p) = look_begin n ∷ (program p ++ (look_end n ∷ []))
  alternatives (lookahead n p) = look_begin n ∷ (glance p ++ (look_end n ∷ []))

-- so many times
abbrev pub concat_copies : {A : Type 0} → ℕ → List A → List A
concat_copies zero xs = []
concat_copies (suc n) xs = xs ++ concat_copies n xs

abbrev pub is_loop : Instruction → Bool
is_loop star_begin = true
is_loop plus_begin = true
is_loop i = false

abbrev pub has_loop : List Instruction → Bool
has_loop [] = false
has_loop (i ∷ is) = is_loop i || has_loop is

-- how many classes are read
abbrev pub read_count : List Instruction → ℕ
read_count [] = 0
read_count (read again optional n rs ∷ is) = read_count is + 1
read_count (i ∷ is) = read_count is

abbrev pub asks_word : Look → Bool
asks_word start = false
asks_word end = false
asks_word boundary = true
asks_word no_boundary = true

-- `\b` or `\B` stands among them
abbrev pub asks_boundary : List Instruction → Bool
asks_boundary [] = false
asks_boundary (assert l ∷ is) = asks_word l || asks_boundary is
asks_boundary (i ∷ is) = asks_boundary is
