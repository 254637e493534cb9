use Rattle.strkw_text.proofs.Equivalences.{iff_trans, MatchOption-map}
use Rattle.strkw_mail.proofs.LocalParts.{unquoted, quoted_open, quoted_end, quoted_stop}
use Rattle.strkw_mail.proofs.local_part.after_local_part.Goals as goal

pub returns-in-Some-after_in_quotes : goal.returns-in-Some-after_in_quotes
returns-in-Some-after_in_quotes c = MatchOption-map _ _ _ _ c.strip-in-Some-after_in_quotes.result
    (quoted_stop c.args.charset c.args.bytes.now _ c.in-Some.ensures.cases _ c.in-Some-after_in_quotes.ensures)
    (λ rest e. quoted_end c.args.charset c.args.bytes.now _ c.in-Some.ensures.cases _ c.in-Some-after_in_quotes.ensures rest.now e)
    c.strip-in-Some-after_in_quotes.ensures.cases

pub returns-in-None-after_in_quotes : goal.returns-in-None-after_in_quotes
returns-in-None-after_in_quotes c = quoted_open c.args.charset c.args.bytes.now _ c.in-Some.ensures.cases c.in-None-after_in_quotes.ensures

pub returns-in-None : goal.returns-in-None
returns-in-None c = MatchOption-map _ _ _ _ c.after_dot_string.result
    (λ n x h. n x ((unquoted c.args.charset c.args.bytes.now c.in-None.ensures.cases x).0 h))
    (λ rest only x. iff_trans (unquoted c.args.charset c.args.bytes.now c.in-None.ensures.cases x) (only x))
    c.after_dot_string.ensures
