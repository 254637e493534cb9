-- The matchers of ECMA-262 2024, section 22.2.2, where nothing is captured: what is left of a state
-- is a place of the text, and a matcher succeeds or does not. It is handed a continuation, which
-- says at which places the rest succeeds.
use Rattle.std.specs.Prelude.{ℕ, zero, suc, ◌+◌, ◌-◌, ◌≤◌, ◌==◌, Bool, true, false, not, ◌&&◌, ◌||◌}
use Rattle.std.specs.Prelude.{List, length, Option, Some, None, IfSome, if◌then◌else◌, slice_get}
use Rattle.std.specs.Prelude.{option_map}
use Rattle.strkw_charset.specs.Membership.{differ, is_member}
use Rattle.strkw_charset.specs.declared.tree.CharSet.{CharSet}
use Rattle.strkw_regex_core.specs.Tree.{Look, start, end, boundary, no_boundary, Pattern, empty}
use Rattle.strkw_regex_core.specs.Tree.{class, look, cat, alt, repeat, lookbehind, lookahead}
use Rattle.strkw_regex_core.specs.Meaning.{before, is_word}

pub data Direction : Type 0 where
  forward backward : Direction

abbrev pub Continuation : Type 0
Continuation = ℕ → Bool

abbrev pub Matcher : Type 0
Matcher = ℕ → Continuation → Bool

-- EmptyMatcher
abbrev pub empty_matcher : Matcher
empty_matcher x c = c x

-- MatchTwoAlternatives
abbrev pub either_matcher : Matcher → Matcher → Matcher
either_matcher m1 m2 x c = m1 x c || m2 x c

-- MatchSequence
abbrev pub sequence_matcher : Direction → Matcher → Matcher → Matcher
sequence_matcher forward m1 m2 x c = m1 x (λ y. m2 y c)
sequence_matcher backward m1 m2 x c = m2 x (λ y. m1 y c)

-- there is a character, and the class has it
abbrev pub has_char : Bool → List CharSet → Option ℕ → Bool
has_char n rs None = false
has_char n rs (Some ch) = is_member n rs ch

-- CharacterSetMatcher (section 22.2.2.7.1)
abbrev pub class_matcher : List ℕ → Direction → Bool → List CharSet → Matcher
class_matcher text forward n rs x c = has_char n rs (slice_get text x) && c (x + 1)
class_matcher text backward n rs x c = has_char n rs (before text x) && c (x - 1)

abbrev pub is_zero : Option ℕ → Bool
is_zero None = false
is_zero (Some m) = m == 0

-- RepeatMatcher (section 22.2.2.3.1), with min and max. A lazy one tries the two at its end in the
-- other order. The first number bounds its calls of itself
abbrev pub repeat_matcher : Matcher → ℕ → ℕ → Option ℕ → Matcher
repeat_matcher m zero min max x c = false
repeat_matcher m (suc calls) min max x c =
    let d : Continuation = λ y. not (min == 0 && y == x)
    && repeat_matcher m calls (min - 1) (option_map (λ n. n - 1) max) y c in
    if is_zero max then c x else if min == 0 then m x d || c x else m x d

-- CompileAssertion (section 22.2.2.4), where no Disjunction stands in it
abbrev pub is_asserted : List ℕ → Look → ℕ → Bool
is_asserted text start x = x == 0
is_asserted text end x = x == length text
is_asserted text boundary x = differ (is_word (before text x)) (is_word (slice_get text x))
is_asserted text no_boundary x =
    not (differ (is_word (before text x)) (is_word (slice_get text x)))

-- and where one does: its matcher is handed the continuation that succeeds everywhere
abbrev pub look_matcher : Bool → Matcher → Matcher
look_matcher n m x c = differ n (m x (λ y. true)) && c x

-- CompileSubpattern (section 22.2.2.3). A round that is not required reads a character, so no more
-- rounds come about than those that are and one for each character
abbrev pub matcher : List ℕ → Direction → Pattern → Matcher
matcher text d empty = empty_matcher
matcher text d (class n rs) = class_matcher text d n rs
matcher text d (look l) = λ x c. is_asserted text l x && c x
matcher text d (cat p q) = sequence_matcher d (matcher text d p) (matcher text d q)
matcher text d (alt p q) = either_matcher (matcher text d p) (matcher text d q)
matcher text d (repeat min max p) =
    repeat_matcher (matcher text d p) (min + length text + 1) min max
matcher text d (lookbehind n p) = look_matcher n (matcher text backward p)
matcher text d (lookahead n p) = look_matcher n (matcher text forward p)

-- no quantifier has a second number below its first (an early error of section 22.2.1.1)
abbrev pub AreOrdered : Pattern → Type 0
AreOrdered empty = Unit {0}
AreOrdered (class n rs) = Unit {0}
AreOrdered (look l) = Unit {0}
AreOrdered (cat p q) = AreOrdered p × AreOrdered q
AreOrdered (alt p q) = AreOrdered p × AreOrdered q
AreOrdered (repeat min max p) = IfSome max (λ m. min ≤ m) × AreOrdered p
AreOrdered (lookbehind n p) = AreOrdered p
AreOrdered (lookahead n p) = AreOrdered p
