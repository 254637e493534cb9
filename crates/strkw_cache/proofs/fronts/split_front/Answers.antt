use Rattle.std.proofs.Common.{◌≡◌, ◌++◌, codes, sym, ap, ◌∙◌, append_assoc}
use Rattle.json.specs.Lex.{tokens}
use Rattle.strkw_cache.proofs.fronts.split_front.Goals as goal

pub returns : goal.returns
returns c =
    let before = c.args.before.now in
    let front = c.in_ok-front.front.now in
    let (named, reads) = c.in_ok-draft.ensures in
    let (_, (_, ends, _), front-is, _) = c.in_ok-front.ensures.cases in
    let at_end : before ≡ front ++ codes ",\"instance\":" = ends ∙ ap (λ l. l ++ codes ",\"instance\":") (sym front-is) in
    (named, λ rest. ap (λ l. tokens (l ++ rest)) at_end ∙ ap tokens (append_assoc front (codes ",\"instance\":") rest) ∙ reads (codes ",\"instance\":" ++ rest))
