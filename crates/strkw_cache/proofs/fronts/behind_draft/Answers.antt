use Rattle.std.proofs.Common.{◌≡◌, ◌++◌, codes, decimal, sym, ap, ◌∙◌}
use Rattle.strkw_cache.proofs.Asking.{draft_read}
use Rattle.strkw_cache.proofs.fronts.behind_draft.Goals as goal

pub returns : goal.returns
returns c =
    let front = c.args.front.now in
    let (named, written) = c.number_of.ensures in
    let (_, (_, draft, _), numbered-is, _) = c.in_ok-numbered.ensures.cases in
    let (_, (_, digits, _), behind-is, _) = c.in_ok-behind.ensures.cases in
    let (_, (_, schema, _), rest-is, _) = c.in_ok-strip_prefix.ensures.cases in
    let at_draft : front ≡ codes "{\"draft\":" ++ c.in_ok-numbered.numbered.now = draft ∙ ap (λ l. codes "{\"draft\":" ++ l) (sym numbered-is) in
    let at_number : c.in_ok-numbered.numbered.now ≡ decimal named.number ++ c.in_ok-behind.behind.now =
    digits ∙ ap (λ l. c.number_of.result.now ++ l) (sym behind-is) ∙ ap (λ l. l ++ c.in_ok-behind.behind.now) written in
    let at_schema : c.in_ok-behind.behind.now ≡ codes ",\"schema\":" ++ c.in_ok-strip_prefix.field-0.now =
    schema ∙ ap (λ l. codes ",\"schema\":" ++ l) (sym rest-is) in (
      named,
      λ rest. draft_read named.number front c.in_ok-strip_prefix.field-0.now rest named.small
          (at_draft ∙ ap (λ l. codes "{\"draft\":" ++ l) (at_number ∙ ap (λ l. decimal named.number ++ l) at_schema)),
    )
