use Rattle.std.proofs.Common.{◌≡◌, ◌++◌, ◌||◌, length, ap, ◌∙◌, arith}
use Rattle.std.specs.Ordering.{is_le}
use Rattle.strkw_regex_grammar.proofs.RegexDigits.{has_value, split_is, within}
use Rattle.strkw_regex_grammar.proofs.lexer.digits.is_within.Goals as goal

pub returns : goal.returns
returns c =
    let digits = c.args.digits.now in
    let others = c.args.others.now in
    let front = c.split_at.result.0.now in
    let back = c.split_at.result.1.now in
    let whole : others ≡ front ++ back = split_is _ others front back c.split_at.ensures.front c.split_at.ensures.back in
    let same : length digits ≡ length back = omega (arith, c.split_at.ensures.back_len, c.requires.longer) in
    within digits others front back whole same c.requires.digits c.requires.others _
    (ap (λ z. z || c.is_le.result) c.has_value.ensures ∙ ap (λ z. has_value front || z) (c.is_le.ensures ∙ ap is_le c.cmp.ensures))
