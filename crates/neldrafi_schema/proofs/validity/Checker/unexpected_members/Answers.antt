use Rattle.std.proofs.Common.{◌≡◌, ◌∷◌, ◌∙◌, [], ap, map, string_bytes, sym}
use Rattle.std.proofs.lemmas.Result.{IfOk-weaker}
use Rattle.neldrafi_schema.specs.Errors.{unexpected_members}
use Rattle.neldrafi_schema.proofs.Lists.{empty_by, not_empty_by}
use Rattle.neldrafi_schema.proofs.Reported.{none_to_report, some_to_report}
use Rattle.neldrafi_schema.proofs.Visited.{nothing_mapped}
use Rattle.neldrafi_schema.proofs.validity.Checker.unexpected_members.Goals as goal

pub returns-then-is_empty : goal.returns-then-is_empty
returns-then-is_empty g c = λ lists tests.
    let items = c.in_ok-unexpected.unexpected.items in
    let none : items ≡ [] = empty_by items _ c.is_empty.result c.is_empty.ensures c.in_ok-unexpected.unexpected.ok.0 c.if-is_empty.true in
    rw c.new.ensures.items (none_to_report unexpected_members _ (sym (c.in_ok-unexpected.ensures lists tests) ∙ ap (map string_bytes) none))

pub returns : goal.returns
returns g c = λ lists tests.
    let items = c.in_ok-unexpected.unexpected.items in
    let names = c.in_ok-unexpected.ensures lists tests in
    let some = not_empty_by items _ c.is_empty.result c.is_empty.ensures c.in_ok-unexpected.unexpected.ok.0 c.if-is_empty.false in
    IfOk-weaker c.only.result _ _ (λ found e. e ∙ ap (λ l. unexpected_members l ∷ []) names
    ∙ some_to_report unexpected_members _ (λ none. some (nothing_mapped string_bytes items (names ∙ none)))) c.only.ensures
