use Rattle.std.proofs.Common.{◌≡◌, ◌++◌, ◌&&◌, not, length, ap, ◌∙◌, arith}
use Rattle.std.specs.Ordering.{is_le}
use Rattle.strkw_regex_grammar.proofs.RegexDigits.{has_value, split_is, longer_within}
use Rattle.strkw_regex_grammar.proofs.lexer.digits.is_longer_within.Goals as goal

pub returns : goal.returns
returns c =
    let digits = c.args.digits.now in
    let others = c.args.others.now in
    let front = c.split_at.result.0.now in
    let back = c.split_at.result.1.now in
    let whole : digits ≡ front ++ back = split_is _ digits front back c.split_at.ensures.front c.split_at.ensures.back in
    let same : length back ≡ length others = omega (arith, c.split_at.ensures.back_len, c.requires.longer) in
    longer_within digits others front back whole same c.requires.digits c.requires.others _
    (ap (λ z. not z && c.is_le.result) c.has_value.ensures ∙ ap (λ z. not (has_value front) && z) (c.is_le.ensures ∙ ap is_le c.cmp.ensures))
