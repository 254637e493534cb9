-- Each text is a pattern of ECMA-262 in Unicode mode, or it is not: the recogniser takes it, or it
-- does not.
use Rattle.std.specs.Prelude.{ℕ, List, ◌&&◌}
use Rattle.strkw_regex_grammar.specs.NullEscape.{is_apart}
use Rattle.strkw_regex_grammar.specs.Regex.{IsRegex}
use Rattle.strkw_regex_grammar.specs.machine.Recognising.{is_read}
use Rattle.strkw_regex_grammar.proofs.RegexExact.{exact}
use Rattle.strkw_companions.specs.Decisions.{Decision, by_other, is_so}

-- each text is a pattern, or it is not
pub regex : (text : List ℕ) → Decision (IsRegex text)
regex text = by_other (exact text) (is_so (is_apart text && is_read text))
