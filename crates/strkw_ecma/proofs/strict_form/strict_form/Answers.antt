use Rattle.std.proofs.Common.{◌≡◌, ℕ, suc, List, [], ◌∷◌, ◌++◌, length, drop, drop_of_length-le, sym, ap, subst, ◌∙◌, IfOk, string_bytes, length-append, arith}
use Rattle.std.specs.Str.{chars}
use Rattle.std.proofs.lemmas.Iterator.{YieldsList-from_chars}
use Rattle.std.proofs.lemmas.Iterator.Consumers.{YieldsList-turn, YieldsList-end}
use Rattle.std.proofs.lemmas.Str.{chars-nil}
use Rattle.strkw_charset.proofs.Lists.{at_place}
use Rattle.strkw_ecma.specs.Lenient.{strict_form}
use Rattle.strkw_ecma.specs.machine.StrictForm.{completed}
use Rattle.strkw_ecma.proofs.strict_form.strict_form.Goals as goal

-- one character more makes a text one longer
longer : (xs : List ℕ) (c : ℕ) → length (xs ++ c ∷ []) ≡ suc (length xs)
longer xs c = length-append xs (c ∷ []) ∙ omega arith

pub loop-c-init : goal.loop-c-init
loop-c-init c =
    ap (λ z. chars z ++ strict_form (chars c.args.pattern.now)) c.in_ok-with_capacity.ensures.bytes ∙ ap (λ z. z ++ strict_form (chars c.args.pattern.now)) chars-nil

pub loop-c-preserved : goal.loop-c-preserved
loop-c-preserved c =
    let text = chars c.args.pattern.now in
    let turn = YieldsList-turn (YieldsList-from_chars c.args.pattern.now c.utf8.pattern cc) c.loop-c.yielded _ c.loop-c.yielded_by _ _ c.in-Some.c c.in-Some.is
    c.next.ensures.steps in
    let next = length (c.loop-c.yielded ++ c.in-Some.c ∷ []) in
    c.in_ok-push.ensures (drop next text)
    ∙ ap (completed c.loop-c.draft) (sym (at_place text (length c.loop-c.yielded) next c.in-Some.c turn.0 turn.1 (longer c.loop-c.yielded c.in-Some.c)))
    ∙ c.loop-c.invariant

pub returns : goal.returns
returns c =
    let text = chars c.args.pattern.now in
    let end = YieldsList-end (YieldsList-from_chars c.args.pattern.now c.utf8.pattern cc) c.loop-c.yielded _ c.loop-c.yielded_by _ _ c.in-None.is
    c.next.ensures.steps in
    let whole : completed c.loop-c.draft [] ≡ strict_form text =
    ap (completed c.loop-c.draft) (sym (drop_of_length-le text {i = length c.loop-c.yielded} (omega (arith, end.1)))) ∙ c.loop-c.invariant in
    subst (λ (z : List ℕ). IfOk c.end.result (λ form. chars (string_bytes form) ≡ z)) whole c.end.ensures
