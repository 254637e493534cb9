use Rattle.std.proofs.Common.{rules, ◌≡◌, ◌∙◌, ◌∷◌, ap, lit<, take, drop}
use Rattle.neldrafi_uri.proofs.components.split_authority.Goals as goal
use Rattle.neldrafi_uri.proofs.Cuts.{authority_read, find_is, path_read}

pub returns-clause-authority : goal.returns-clause-authority
returns-clause-authority c =
    let rest = c.in-Some.rest.now in
    let behind : c.args.text.now ≡ 47 ∷ 47 ∷ rest = search rules in
    let end = c.unwrap_or-end.ensures ∙ find_is 47 rest (lit< tt) c.find.result c.find.ensures.cases in
    authority_read c.args.text.now rest c.split_at.result.0.now behind (c.split_at.ensures.front ∙ ap (λ n. take n rest) end)

pub returns-clause-behind : goal.returns-clause-behind
returns-clause-behind c =
    let rest = c.in-Some.rest.now in
    let behind : c.args.text.now ≡ 47 ∷ 47 ∷ rest = search rules in
    let end = c.unwrap_or-end.ensures ∙ find_is 47 rest (lit< tt) c.find.result c.find.ensures.cases in
    path_read c.args.text.now rest c.split_at.result.1.now behind (c.split_at.ensures.back ∙ ap (λ n. drop n rest) end)
