-- What the answers about a character tell of a pattern.
use Rattle.std.specs.Prelude.{◌≡◌, true, List, Vec}
use Rattle.std.specs.declared.alloc.Global.{Global}
use Rattle.strkw_regex_core.specs.machine.MarkedPattern.{MarkedPattern, empty, class, look, cat}
use Rattle.strkw_regex_core.specs.machine.MarkedPattern.{alt, star, plus}
use Rattle.strkw_regex_core.specs.machine.MarkedPattern.{lookbehind, lookahead}
use Rattle.strkw_regex_core.specs.machine.Program.{asks_word}
use Rattle.strkw_charset.specs.Sets.{word_characters}
use Rattle.strkw_charset.specs.declared.tree.CharSet.{CharSet}
use Rattle.strkw_charset.specs.machine.CharClasses.{TellsSets}

-- the answers tell all that a glance asks about a character
abbrev pub TellsGlance : List (Vec CharSet Global) → MarkedPattern → Type 0
TellsGlance classes empty = Unit {0}
TellsGlance classes (class m n rs) = TellsSets classes rs
TellsGlance classes (look l) = asks_word l ≡ true → TellsSets classes word_characters
TellsGlance classes (cat p q) = TellsGlance classes q
TellsGlance classes (alt p q) = TellsGlance classes p × TellsGlance classes q
TellsGlance classes (star p) = Unit {0}
TellsGlance classes (plus p) = Unit {0}
TellsGlance classes (lookbehind n p) = Unit {0}
TellsGlance classes (lookahead n p) = TellsGlance classes p

-- the answers tell all that a pattern asks about a character
abbrev pub Tells : List (Vec CharSet Global) → MarkedPattern → Type 0
Tells classes empty = Unit {0}
Tells classes (class m n rs) = TellsSets classes rs
Tells classes (look l) = asks_word l ≡ true → TellsSets classes word_characters
Tells classes (cat p q) = Tells classes p × Tells classes q
Tells classes (alt p q) = Tells classes p × Tells classes q
Tells classes (star p) = Tells classes p
Tells classes (plus p) = Tells classes p
Tells classes (lookbehind n p) = Tells classes p
Tells classes (lookahead n p) = TellsGlance classes p
