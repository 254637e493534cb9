-- How a pattern is built of lexemes, one after another, or why it is not.
use Rattle.std.specs.Prelude.{ℕ, ◌*◌, nat_lt, nat_le, ◌&&◌, ◌||◌, not, length, Bool, true, false}
use Rattle.std.specs.Prelude.{List, [], ◌∷◌, ◌++◌, Option, Some, None}
use Rattle.strkw_charset.specs.Sets.{line_ends, set_of, is_negative}
use Rattle.strkw_charset.specs.declared.properties.Property.{Property}
use Rattle.strkw_charset.specs.declared.tree.CharSet.{CharSet}
use Rattle.strkw_charset.specs.declared.tree.CharSet.TheVariants.{Property as PropertySet}
use Rattle.strkw_regex_core.specs.Size.{max_term_steps}
use Rattle.strkw_regex_core.specs.machine.ProgramSteps.{steps}
use Rattle.strkw_regex_core.specs.machine.Times.{Times, any_times, some_times, once_at_most}
use Rattle.strkw_regex_core.specs.machine.Times.{times_of}
use Rattle.strkw_regex_core.specs.machine.Times.{quantified_pattern}
use Rattle.strkw_regex_core.specs.machine.Times.{copies}
use Rattle.strkw_regex_core.specs.machine.MarkedPattern.{MarkedPattern, empty, class, cat, alt}
use Rattle.strkw_regex_core.specs.machine.MarkedPattern.{lookbehind, lookahead}
use Rattle.strkw_regex_grammar.specs.Codes.{is_lead, is_trail, is_scalar}
use Rattle.strkw_regex_grammar.specs.Names.{are_distinct}
use Rattle.strkw_regex_grammar.specs.machine.CodeMakers.{pair_value}
use Rattle.strkw_regex_grammar.specs.machine.Lexemes as lexeme
use Rattle.strkw_regex_grammar.specs.machine.Lexemes.{Lexeme, Opening, plain_group, capture, named}
use Rattle.strkw_regex_grammar.specs.machine.Lexemes.{behind, ahead}
use Rattle.strkw_regex_grammar.specs.declared.lexer.numbers.Form.{Form}
use Rattle.strkw_regex_grammar.specs.declared.lexer.numbers.Form.TheVariants.{Unit as unit_form}
use Rattle.strkw_regex_grammar.specs.declared.lexer.numbers.Form.TheVariants.{Other as other_form}
use Rattle.strkw_regex_grammar.specs.declared.lexemes.Bounds.{Bounds}
use Rattle.strkw_regex_grammar.specs.declared.lexemes.Bounds.TheVariants as bounds
use Rattle.strkw_regex_reader.specs.Limits.{max_count, max_nesting}
use Rattle.strkw_regex_reader.specs.Patterns.{one_char, edge_pattern}
use Rattle.strkw_regex_core.specs.machine.Expansion.{expand}
use Rattle.strkw_regex_reader.specs.declared.refusals.PatternRefusal.{PatternRefusal}
use Rattle.strkw_regex_reader.specs.declared.refusals.PatternRefusal.TheVariants as refusals
-- what a parenthesis has opened
pub use Rattle.strkw_regex_reader.specs.declared.builder.Enclosing.{Enclosing}
use Rattle.strkw_regex_reader.specs.declared.builder.Enclosing.TheVariants as enclosings

-- the alternatives before the one that is built, and the terms of that one
pub record Level : Type 0 where
  pub earlier : Option MarkedPattern
  pub current : MarkedPattern

-- the last term, where more may follow it: an atom; the leading surrogate of one; or an atom with
-- its quantifier
pub data Last : Type 0 where
  none : Last
  atom : MarkedPattern → Last
  lead : ℕ → Last
  counted : MarkedPattern → Last

-- a group or a lookaround that is open, and the level around it
pub record Open : Type 0 where
  pub enclosing : Enclosing
  pub level : Level

-- what is open, the innermost first; the names of all groups that there were; the level within;
-- and its last term
pub record Builder : Type 0 where
  pub groups : List Open
  pub names : List (List ℕ)
  pub level : Level
  pub last : Last

-- what comes of one more lexeme: it is taken, or it is not, for a reason where one is told
pub data Built : Type 0 where
  takes : Builder → Built
  refuses : Option PatternRefusal → Built

-- terms and the last of them
abbrev pub all_terms : MarkedPattern → Last → MarkedPattern
all_terms p none = p
all_terms p (atom q) = cat p q
all_terms p (lead n) = p
all_terms p (counted q) = cat p q

abbrev pub join_alternatives : Option MarkedPattern → MarkedPattern → MarkedPattern
join_alternatives None p = p
join_alternatives (Some q) p = alt q p

-- all alternatives of a level
abbrev pub whole_level : Level → Last → MarkedPattern
whole_level l x = join_alternatives l.earlier (all_terms l.current x)

abbrev pub level_so_far : Level → Last → Level
level_so_far l x = record { earlier = l.earlier; current = all_terms l.current x }

abbrev pub new_level : Level
new_level = record { earlier = None; current = empty }

abbrev pub with_level : Builder → Level → Last → Builder
with_level s l x = record { groups = s.groups; names = s.names; level = l; last = x }

-- behind the last term, another of which nothing is known yet
abbrev pub with_last : Builder → Last → Builder
with_last s x = with_level s (level_so_far s.level s.last) x

abbrev pub with_atom : Builder → MarkedPattern → Builder
with_atom s p = with_last s (atom p)

-- a term that no quantifier may follow
abbrev pub with_term : Builder → MarkedPattern → Builder
with_term s p = with_level s
    (record { earlier = s.level.earlier; current = cat (all_terms s.level.current s.last) p }) none

abbrev pub with_bar : Builder → Builder
with_bar s =
    with_level s (record { earlier = Some (whole_level s.level s.last); current = empty }) none

-- a group or a lookaround begins, where it is not too deep
abbrev pub opened : Builder → Enclosing → Builder
opened s e = record {
  groups = record { enclosing = e; level = level_so_far s.level s.last } ∷ s.groups;
  names = s.names;
  level = new_level;
  last = none;
}

abbrev pub open_if : Bool → Builder → Built
open_if false s = refuses (Some refusals.TooDeep)
open_if true s = takes s

abbrev pub open_within : Builder → Enclosing → Built
open_within s e = open_if (nat_lt (length s.groups) max_nesting) (opened s e)

abbrev pub with_name : Builder → List ℕ → Builder
with_name s n =
    record { groups = s.groups; names = s.names ++ n ∷ []; level = s.level; last = s.last }

abbrev pub begin : Builder → Opening → Built
begin s plain_group = open_within s enclosings.Group
begin s capture = open_within s enclosings.Group
begin s (named n) = open_within (with_name s n) enclosings.Group
begin s (behind b) = open_within s (enclosings.Behind b)
begin s (ahead b) = open_within s (enclosings.Ahead b)

-- behind its end it is an atom or a term of the level around it
abbrev pub at_level : List Open → List (List ℕ) → Level → Builder
at_level os ns l = record { groups = os; names = ns; level = l; last = none }

abbrev pub enclose : Builder → Enclosing → MarkedPattern → Builder
enclose s enclosings.Group p = with_atom s p
enclose s (enclosings.Behind b) p = with_term s (lookbehind b p)
enclose s (enclosings.Ahead b) p = with_term s (lookahead b p)

abbrev pub close_in : List Open → List (List ℕ) → MarkedPattern → Built
close_in [] ns p = refuses None
close_in (o ∷ os) ns p = takes (enclose (at_level os ns o.level) o.enclosing p)

abbrev pub close : Builder → Built
close s = close_in s.groups s.names (whole_level s.level s.last)

-- quantifiers
abbrev pub quantify_behind : Builder → Last → Times → Built
quantify_behind s none t = refuses None
quantify_behind s (atom p) t = takes (with_level s s.level (counted (quantified_pattern t p)))
quantify_behind s (lead n) t = refuses None
quantify_behind s (counted p) t = refuses None

abbrev pub quantify : Builder → Times → Built
quantify s t = quantify_behind s s.last t

-- a `?` behind a quantifier makes that one lazy
abbrev pub question_behind : Builder → Last → Built
question_behind s (counted p) =
    takes (with_level s (record { earlier = s.level.earlier; current = cat s.level.current p }) none)
question_behind s x = quantify_behind s x once_at_most

abbrev pub question : Builder → Built
question s = question_behind s s.last

-- a counted term is not too large
abbrev pub small_if : Bool → Built → Built
small_if false b = refuses (Some refusals.TermTooLarge)
small_if true b = b

abbrev pub count_behind : Builder → Last → Times → Built
count_behind s (atom p) t =
    small_if (nat_le (copies t * steps p) max_term_steps) (quantify_behind s (atom p) t)
count_behind s x t = refuses None

-- and no count too great
abbrev pub great_if : Bool → Built → Built
great_if false b = b
great_if true b = refuses (Some refusals.CountTooGreat)

abbrev pub is_great : ℕ → Bool
is_great n = nat_lt max_count n

abbrev pub repeat : Builder → Bounds → Built
repeat s bounds.ZeroOrMore = quantify s any_times
repeat s bounds.OneOrMore = quantify s some_times
repeat s (bounds.Exactly n) = great_if (is_great n) (count_behind s s.last (times_of n (Some n)))
repeat s (bounds.AtLeast n) = great_if (is_great n) (count_behind s s.last (times_of n None))
repeat s (bounds.FromTo n m) =
    great_if (is_great n || is_great m) (count_behind s s.last (times_of n (Some m)))

-- escapes by a number: a character; or a leading surrogate, behind which a trailing one has to come
abbrev pub lead_if : Builder → ℕ → Bool → Built
lead_if s n false = refuses None
lead_if s n true = takes (with_last s (lead n))

abbrev pub surrogate : Builder → Form → ℕ → Built
surrogate s unit_form n = lead_if s n (is_lead n)
surrogate s other_form n = refuses None

abbrev pub number_if : Builder → Form → ℕ → Bool → Built
number_if s f n false = surrogate s f n
number_if s f n true = takes (with_atom s (expand (one_char n)))

abbrev pub trail_if : Builder → ℕ → ℕ → Bool → Built
trail_if s n m false = refuses None
trail_if s n m true = takes (with_level s s.level (atom (expand (one_char (pair_value n m)))))

abbrev pub property_built : Builder → Bool → Option Property → Built
property_built s n None = refuses None
property_built s n (Some p) = takes (with_atom s (class false false (PropertySet n p ∷ [])))

abbrev pub class_built : Builder → Bool → Option (List CharSet) → Built
class_built s n None = refuses None
class_built s n (Some rs) = takes (with_atom s (class false n rs))

abbrev pub build_one : Builder → Lexeme → Built
build_one s lexeme.bar = takes (with_bar s)
build_one s (lexeme.edge e) = takes (with_term s (expand (edge_pattern e)))
build_one s (lexeme.char c) = takes (with_atom s (expand (one_char c)))
build_one s (lexeme.number f n) = number_if s f n (is_scalar n)
build_one s lexeme.dot = takes (with_atom s (class false true line_ends))
build_one s (lexeme.set c) = takes (with_atom s (class false (is_negative c) (set_of c)))
build_one s (lexeme.property n o) = property_built s n o
build_one s (lexeme.class n o) = class_built s n o
build_one s (lexeme.reference n) = refuses (Some refusals.BackReference)
build_one s (lexeme.call n) = refuses (Some refusals.BackReference)
build_one s (lexeme.begins o) = begin s o
build_one s lexeme.ends = close s
build_one s (lexeme.repeats b) = repeat s b
build_one s lexeme.question = question s

-- behind a leading surrogate
abbrev pub build_trail : Builder → ℕ → Lexeme → Built
build_trail s n (lexeme.number unit_form m) =
    trail_if s n m (is_trail m && is_scalar (pair_value n m))
build_trail s n l = refuses None

abbrev pub build_behind : Builder → Last → Lexeme → Built
build_behind s (lead n) l = build_trail s n l
build_behind s x l = build_one s l

abbrev pub build : Builder → Lexeme → Built
build s l = build_behind s s.last l

-- the builder, where there is one
abbrev pub taken_of : Built → Option Builder
taken_of (takes s) = Some s
taken_of (refuses w) = None

abbrev pub step : Builder → Lexeme → Option Builder
step s l = taken_of (build s l)

-- all that has been built, where a pattern may end
abbrev pub is_closed : List Open → Bool
is_closed [] = true
is_closed (o ∷ os) = false

abbrev pub is_lead_last : Last → Bool
is_lead_last (lead n) = true
is_lead_last x = false

abbrev pub may_end : Builder → Bool
may_end s = is_closed s.groups && not (is_lead_last s.last) && are_distinct s.names

abbrev pub when : {A : Type 0} → Bool → Option A → Option A
when false o = None
when true o = o

abbrev pub at_end : Builder → Option MarkedPattern
at_end s = when (may_end s) (Some (whole_level s.level s.last))

abbrev pub nothing_built : Builder
nothing_built = record { groups = []; names = []; level = new_level; last = none }
