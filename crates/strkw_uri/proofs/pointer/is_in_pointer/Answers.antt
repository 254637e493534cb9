use Rattle.std.proofs.Common.{◌≡◌, ◌∷◌, ap, sym, subst, ◌∙◌, codes}
use Rattle.std.specs.Str.{chars}
use Rattle.strkw_text.proofs.Equivalences.{carry, nope, yes, iff_trans}
use Rattle.strkw_text.specs.Abnf.{OneOf}
use Rattle.strkw_text.specs.Characters.{is_one_of}
use Rattle.strkw_text.proofs.Laws.{no_start_then}
use Rattle.strkw_text.proofs.Runs.{free_then, OneOf-free}
use Rattle.strkw_uri.proofs.Pointers.{InPointer, step_char, step_tilde, in_pointer_nil}
use Rattle.strkw_uri.proofs.pointer.is_in_pointer.Goals as goal

pub loop-c-preserved-then-c-ne126 : goal.loop-c-preserved-then-c-ne126
loop-c-preserved-then-c-ne126 c = (c.in-Some.ensures.utf8, iff_trans c.loop-c.invariant.1 (step_char c.in-Some.c _ _ c.in-Some.ensures.cases c.if-c-ne126.true))

pub loop-c-preserved : goal.loop-c-preserved
loop-c-preserved c =
    let class = is_one_of (codes "01") in
    let tilde : chars c.loop-c.rest.now ≡ 126 ∷ chars c.in-Some.after.now = c.in-Some.ensures.cases
    ∙ ap (λ d. d ∷ chars c.in-Some.after.now) c.if-c-ne126.false in (
      c.in-Some-after_one.ensures.utf8,
      iff_trans c.loop-c.invariant.1 (iff_trans (step_tilde _ _ tilde)
          (free_then (OneOf class) InPointer _ _ (OneOf-free class) c.in-Some-after_one.ensures.cases)),
    )

pub returns-in-None : goal.returns-in-None
returns-in-None c =
    let tilde : chars c.loop-c.rest.now ≡ 126 ∷ chars c.in-Some.after.now = c.in-Some.ensures.cases
    ∙ ap (λ d. d ∷ chars c.in-Some.after.now) c.if-c-ne126.false in
    carry (nope (no_start_then (OneOf (is_one_of (codes "01"))) InPointer _ c.in-None.ensures.cases)) (iff_trans c.loop-c.invariant.1 (step_tilde _ _ tilde))

pub returns : goal.returns
returns c = carry (yes (subst InPointer (sym c.in_default.ensures.cases) in_pointer_nil)) c.loop-c.invariant.1
