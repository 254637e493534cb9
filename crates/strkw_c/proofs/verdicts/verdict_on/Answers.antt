use Rattle.std.proofs.Common.{rules, ◌≡◌, IsTrue, inl, inr, refl}
use Rattle.std.specs.Str.{IsUtf8}
use Rattle.strkw_report.specs.Standings.{root_site}
use Rattle.strkw_keywords.specs.Handed.{lists_of}
use Rattle.strkw_c.specs.Verdicts.{Passes}
use Rattle.strkw_c.proofs.verdicts.verdict_on.Goals as goal

pub returns-then-branch : goal.returns-then-branch
returns-then-branch g c =
    let lists =
    lists_of (λ b. (goal.Format-dyn g b).admits b.1) (λ b. (goal.MediaTypeCheck-dyn g b).accepts b.1)
    (λ b. (goal.ContentCodec-dyn g b).is_encoding b.1) (λ b. (goal.ContentCodec-dyn g b).decoding b.1) c.args.checks.now in
    let utf8 : IsUtf8 c.args.text.now = search rules in
    let exact = c.in_ok-is_valid.ensures.exact root_site in
    let passes : Passes g.E.RegexEngine.outcome c.args.keywords.now lists c.args.text.now = search (rules, exact) in
    inl (refl, utf8, passes)

pub returns-else-branch : goal.returns-else-branch
returns-else-branch g c =
    let utf8 : IsUtf8 c.args.text.now = search rules in
    let exact = c.in_ok-is_valid.ensures.exact root_site in
    let same : c.in-Some.text.now ≡ c.args.text.now = search rules in
    inr (inl (refl, utf8, λ passes. let valid : IsTrue c.in_ok-is_valid.field-0 = exact.1 (rw same passes) in cc (valid, c.if-branch.false)))
