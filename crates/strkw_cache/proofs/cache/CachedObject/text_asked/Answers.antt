use Rattle.std.proofs.Common.{◌≡◌, ◌++◌, true, IfSome, Some, codes, string_bytes, sym, ap, subst, ◌∙◌, arith}
use Rattle.json.specs.Print.{escape}
use Rattle.json.proofs.Printed.Plain.{escape_on_plain}
use Rattle.strkw_cache.specs.Fronts.{IsFront}
use Rattle.strkw_cache.specs.Tokens.{tokens_owned}
use Rattle.strkw_cache.proofs.Asking.{asked}
use Rattle.strkw_cache.proofs.cache.CachedObject.text_asked.Goals as goal

pub returns-then-are_plain : goal.returns-then-are_plain
returns-then-are_plain c = λ ms keeps.
    let object = c.args.self.now in
    let front = string_bytes c.in_ok-as_ref.field-0.now in
    let text = c.in_ok-text.text.now in
    let had : object.front ≡ Some c.in_ok-as_ref.field-0.now = grind arith in
    let is = subst (λ o. IfSome o (λ f. IsFront object.terms (tokens_owned object.tokens.items) (string_bytes f))) had keeps.is_front in
    let (n, (n-is, begins, n-fits), rest-is, rest-long) = c.in_ok-rest.ensures.cases in
    let (m, (m-is, ends, m-fits), text-is, text-long) = c.in_ok-text.ensures.cases in
    let line : c.args.line.now ≡ c.as_str.result.now ++ c.in_ok-rest.rest.now = begins ∙ ap (λ l. c.as_str.result.now ++ l) (sym rest-is) in
    let rest : c.in_ok-rest.rest.now ≡ text ++ codes "\"}" = ends ∙ ap (λ l. l ++ codes "\"}") (sym text-is) in
    let plain : escape text ≡ text = subst (λ t. escape t ≡ t) c.as_bytes.ensures.value (escape_on_plain true _ (c.are_plain.ensures c.if-are_plain.true)) in
    asked object.terms (tokens_owned object.tokens.items) ms front text c.args.line.now is keeps.read plain
    (line ∙ ap (λ l. l ++ c.in_ok-rest.rest.now) c.as_str.ensures.value ∙ ap (λ l. front ++ l) rest)
