use Rattle.std.proofs.Common.{◌++◌, ap, ◌∙◌, sym, encode_utf8}
use Rattle.std.proofs.lemmas.Str.{chars_past_char}
use Rattle.strkw_pattern.proofs.whitespace.first_char.Goals as goal

pub returns-clause-cases : goal.returns-clause-cases
returns-clause-cases c =
    chars_past_char c.args.text.now c.as_str.result.now c.in_ok-first.first c.utf8.text
    (sym c.chars-characters.ensures.rest ∙ c.in_ok-first.ensures.steps.0 ∙ ap (λ r. encode_utf8 c.in_ok-first.first ++ r) (sym c.as_str.ensures))
