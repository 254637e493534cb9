use Rattle.std.proofs.Common.{◌≡◌, drop, length}
use Rattle.std.specs.Str.{chars}
use Rattle.strkw_regex_grammar.specs.NullEscape.{is_apart, is_apart_from}
use Rattle.strkw_regex_grammar.proofs.null_escape.is_apart.Given as goal

-- the walk over what is left
abbrev pub invariant-loop-c : goal.invariant-loop-c
invariant-loop-c l = is_apart_from l.front (drop (length l.yielded) (chars l.source)) ≡ is_apart (chars l.source)
