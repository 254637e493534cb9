-- What is left of the characters of a text.
use Rattle.std.specs.Prelude.{ℕ, List}
use Rattle.std.specs.Str.{chars}
use Rattle.std.specs.Str.Iter.{chars_rest}
use Rattle.strkw_regex_core.specs.machine.Mirror.{along}
use Rattle.strkw_regex_search.specs.declared.along.Along.{Along}

abbrev pub left_of : Along → List ℕ
left_of a = along a.is_backward (chars (chars_rest a.rest))
