use Rattle.std.proofs.Common.{◌≡◌, refl, sym, ◌∙◌, ◌∷◌, []}
use Rattle.strkw_pattern.specs.Literal.{plain, escaped}
use Rattle.strkw_pattern.proofs.Items.{no_item-backslash, no_item-last_backslash}
use Rattle.strkw_pattern.proofs.literal.first_item.Goals as goal

pub returns-then-is_plain : goal.returns-then-is_plain
returns-then-is_plain c = (plain c.in_ok-first.first, sym c.is_plain.ensures ∙ c.if-is_plain.true, c.in_ok-first.ensures, refl)

pub returns-in_err-second : goal.returns-in_err-second
returns-in_err-second c =
    let whole : c.args.pattern.now ≡ 92 ∷ [] = cc (c.in_ok-first.ensures, c.in_err-second.ensures, c.if-first-ne92.false) in
    rw (c.from_residual-in_err-second.ensures, whole) no_item-last_backslash

pub returns-then-is_escapable : goal.returns-then-is_escapable
returns-then-is_escapable c =
    let e0 : c.args.pattern.now ≡ 92 ∷ c.in_ok-second.second ∷ c.in_ok-second.rest.now =
    cc (c.in_ok-first.ensures, c.in_ok-second.ensures, c.if-first-ne92.false) in
    (escaped c.in_ok-second.second, sym c.is_escapable.ensures ∙ c.if-is_escapable.true, e0, refl)

pub returns-else-is_escapable : goal.returns-else-is_escapable
returns-else-is_escapable c = λ x rest is e.
    let e0 : c.args.pattern.now ≡ 92 ∷ c.in_ok-second.second ∷ c.in_ok-second.rest.now =
    cc (c.in_ok-first.ensures, c.in_ok-second.ensures, c.if-first-ne92.false) in
    no_item-backslash c.in_ok-second.second c.in_ok-second.rest.now (sym c.is_escapable.ensures ∙ c.if-is_escapable.false) x rest is (sym e0 ∙ e)
