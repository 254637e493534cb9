use Rattle.strkw_text.proofs.Equivalences.{MatchOption-map}
use Rattle.std.proofs.lemmas.Str.Pattern.{split_parts}
use Rattle.strkw_text.proofs.Delimiters.{chars_without, chars_cut}
use Rattle.strkw_uri.proofs.scan.split_at.Goals as goal

pub returns-clause-cases : goal.returns-clause-cases
returns-clause-cases c =
    let w = c.args.wanted in
    let low = c.requires in
    MatchOption-map _ _ _ _ c.split_once.result
    (chars_without w low c.args.text.now c.utf8.text)
    (λ x h. let k = chars_cut w low c.args.text.now x.0.now x.1.now c.utf8.text h.0 in (chars_without w low x.0.now k.utf8 h.1, k.is))
    (split_parts w c.args.text.now c.split_once.result c.split_once.ensures.cases low)
