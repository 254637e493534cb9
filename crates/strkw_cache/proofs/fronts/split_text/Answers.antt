use Rattle.std.proofs.Common.{◌≡◌, ◌++◌, true, codes, sym, ap, subst, ◌∙◌, append_assoc, arith}
use Rattle.std.proofs.lemmas.Grind.{common_steps}
use Rattle.json.specs.Print.{escape}
use Rattle.json.proofs.Printed.Plain.{escape_on_plain}
use Rattle.strkw_cache.proofs.fronts.split_text.Goals as goal

pub returns-then-are_plain : goal.returns-then-are_plain
returns-then-are_plain c =
    let line = c.args.line.now in
    let front = c.in_ok-front.front.now in
    let before = c.in_ok-before.before.now in
    let quoted = c.in_ok-before.quoted.now in
    let text = c.in_ok-text.text.now in
    let (_, (_, ends, _), front-is, _) = c.in_ok-front.ensures.cases in
    let (_, (_, begins, _), text-is, _) = c.in_ok-text.ensures.cases in
    let at_end : line ≡ front ++ codes "\"}" = ends ∙ ap (λ l. l ++ codes "\"}") (sym front-is) in
    let at_mark : quoted ≡ codes "\"" ++ text = begins ∙ ap (λ l. codes "\"" ++ l) (sym text-is) in
    let apart : front ≡ before ++ quoted = grind (arith, common_steps) in
    let plain : escape text ≡ text = subst (λ t. escape t ≡ t) c.as_bytes-2.ensures.value
    (escape_on_plain true _ (c.are_plain.ensures c.if-are_plain.true)) in (
      plain,
      at_end ∙ ap (λ l. l ++ codes "\"}") (apart ∙ ap (λ l. before ++ l) at_mark) ∙ append_assoc before (codes "\"" ++ text) (codes "\"}"),
    )
