-- How a pattern of the whole grammar is recognised: of its lexemes what stands between two terms is
-- kept, and no tree.
use Rattle.std.specs.Prelude.{ℕ, ◌+◌, nat_lt, nat_le, ◌&&◌, Bool, true, false, List, [], ◌∷◌, ◌++◌}
use Rattle.std.specs.Prelude.{Option, Some, None, if◌then◌else◌}
use Rattle.std.specs.List.{list_any, list_all}
use Rattle.strkw_regex_grammar.specs.Names.{same_name, are_distinct}
use Rattle.strkw_regex_grammar.specs.Regex.{capture_limit}
use Rattle.strkw_regex_grammar.specs.machine.Lexemes.{Lexeme, Opening, plain_group, capture, named}
use Rattle.strkw_regex_grammar.specs.machine.Lexemes.{behind, ahead, bar, edge, char, number, dot}
use Rattle.strkw_regex_grammar.specs.machine.Lexemes.{set, property, class, reference, call, begins}
use Rattle.strkw_regex_grammar.specs.machine.Lexemes.{ends, repeats, question}
use Rattle.strkw_regex_grammar.specs.machine.Lexing.{Read, between, at, read_from}
-- the last term: none that a quantifier may follow, an atom, or an atom with its quantifier
pub use Rattle.strkw_regex_grammar.specs.declared.lexemes.Last.{Last}
pub use Rattle.strkw_regex_grammar.specs.declared.lexemes.Last.TheVariants.{None as none}
pub use Rattle.strkw_regex_grammar.specs.declared.lexemes.Last.TheVariants.{Atom as atom}
pub use Rattle.strkw_regex_grammar.specs.declared.lexemes.Last.TheVariants.{Counted as counted}

-- between terms: whether a quantifier may follow the end of each group that is open, the innermost
-- first; the last term; how many groups capture; the greatest number that a back reference asks
-- for; the names of the groups; and those that back references ask for
pub record ParserStack : Type 0 where
  pub groups : List Bool
  pub last : Last
  pub captures : ℕ
  pub greatest : ℕ
  pub names : List (List ℕ)
  pub calls : List (List ℕ)

abbrev pub with_last : ParserStack → Last → ParserStack
with_last s x = record {
  groups = s.groups;
  last = x;
  captures = s.captures;
  greatest = s.greatest;
  names = s.names;
  calls = s.calls;
}

-- a group or a lookaround is opened, and whether a quantifier may follow its end
abbrev pub open_group : ParserStack → Bool → ParserStack
open_group s q = record {
  groups = q ∷ s.groups;
  last = none;
  captures = s.captures;
  greatest = s.greatest;
  names = s.names;
  calls = s.calls;
}

-- a group that captures
abbrev pub open_capture : ParserStack → ParserStack
open_capture s = record {
  groups = true ∷ s.groups;
  last = none;
  captures = s.captures + 1;
  greatest = s.greatest;
  names = s.names;
  calls = s.calls;
}

-- where there are not too many
abbrev pub when : Bool → Option ParserStack → Option ParserStack
when false o = None
when true o = o

abbrev pub open_capture_within : ParserStack → Option ParserStack
open_capture_within s = when (nat_lt (s.captures + 1) capture_limit) (Some (open_capture s))

abbrev pub with_name : ParserStack → List ℕ → ParserStack
with_name s n = record {
  groups = s.groups;
  last = s.last;
  captures = s.captures;
  greatest = s.greatest;
  names = s.names ++ n ∷ [];
  calls = s.calls;
}

-- behind a back reference to a name
abbrev pub add_call : ParserStack → List ℕ → ParserStack
add_call s n = record {
  groups = s.groups;
  last = atom;
  captures = s.captures;
  greatest = s.greatest;
  names = s.names;
  calls = s.calls ++ n ∷ [];
}

abbrev pub greater_of : ℕ → ℕ → ℕ
greater_of n m = if nat_le n m then m else n

-- and behind one to a number
abbrev pub add_reference : ParserStack → ℕ → ParserStack
add_reference s n = record {
  groups = s.groups;
  last = atom;
  captures = s.captures;
  greatest = greater_of s.greatest n;
  names = s.names;
  calls = s.calls;
}

abbrev pub last_if : Bool → Last
last_if false = none
last_if true = atom

abbrev pub close_group_in : ParserStack → List Bool → Option ParserStack
close_group_in s [] = None
close_group_in s (q ∷ gs) = Some (record {
  groups = gs;
  last = last_if q;
  captures = s.captures;
  greatest = s.greatest;
  names = s.names;
  calls = s.calls;
})

abbrev pub close_group : ParserStack → Option ParserStack
close_group s = close_group_in s s.groups

abbrev pub add_quantifier_behind : ParserStack → Last → Option ParserStack
add_quantifier_behind s none = None
add_quantifier_behind s atom = Some (with_last s counted)
add_quantifier_behind s counted = None

abbrev pub add_quantifier : ParserStack → Option ParserStack
add_quantifier s = add_quantifier_behind s s.last

-- a `?` behind a quantifier makes it lazy
abbrev pub add_question_behind : ParserStack → Last → Option ParserStack
add_question_behind s none = None
add_question_behind s atom = Some (with_last s counted)
add_question_behind s counted = Some (with_last s none)

abbrev pub add_question : ParserStack → Option ParserStack
add_question s = add_question_behind s s.last

-- behind what opens a group or a lookaround
abbrev pub open_step : ParserStack → Opening → Option ParserStack
open_step s plain_group = Some (open_group s true)
open_step s capture = open_capture_within s
open_step s (named n) = open_capture_within (with_name s n)
open_step s (behind b) = Some (open_group s false)
open_step s (ahead b) = Some (open_group s false)

-- behind any lexeme
abbrev pub step : ParserStack → Lexeme → Option ParserStack
step s bar = Some (with_last s none)
step s (edge e) = Some (with_last s none)
step s (char c) = Some (with_last s atom)
step s (number f n) = Some (with_last s atom)
step s dot = Some (with_last s atom)
step s (set c) = Some (with_last s atom)
step s (property n o) = Some (with_last s atom)
step s (class n o) = Some (with_last s atom)
step s (reference n) = Some (add_reference s n)
step s (call n) = Some (add_call s n)
step s (begins o) = open_step s o
step s ends = close_group s
step s (repeats b) = add_quantifier s
step s question = add_question s

abbrev pub is_closed : List Bool → Bool
is_closed [] = true
is_closed (q ∷ gs) = false

-- no group is open, and what the references ask for is there
abbrev pub is_whole : ParserStack → Bool
is_whole s =
    is_closed s.groups && nat_le s.greatest s.captures && are_distinct s.names
    && list_all (λ n. list_any (same_name n) s.names) s.calls

-- of what stands, where there is something
abbrev pub whole_of : Option ParserStack → Bool
whole_of None = false
whole_of (Some s) = is_whole s

abbrev pub nothing_read : ParserStack
nothing_read = record {
  groups = [];
  last = none;
  captures = 0;
  greatest = 0;
  names = [];
  calls = [];
}

abbrev pub reads_if : Bool → Read ParserStack → Option (Read ParserStack)
reads_if false r = None
reads_if true r = Some r

abbrev pub is_read : List ℕ → Bool
is_read source = whole_of (read_from false step (at between nothing_read) source)
