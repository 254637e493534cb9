use Rattle.std.proofs.Common.{◌≡◌, ◌<◌, List, true, length, get_or, sym, ap, subst, ◌∙◌, true≢false, arith}
use Rattle.std.proofs.lemmas.List.{get_or_default}
use Rattle.strkw_regex_core.specs.machine.Boundaries.{has_boundary}
use Rattle.strkw_charset.specs.machine.CharClasses.{TellsSets}
use Rattle.strkw_charset.specs.Sets.{word_characters}
use Rattle.strkw_regex_search.specs.machine.Machine.{pattern_of}
use Rattle.strkw_regex_search.specs.declared.code.Class.{Class}
use Rattle.strkw_ecma.proofs.Told.{pattern_told}
use Rattle.strkw_charset.proofs.Lists.{one_more}
use Rattle.strkw_ecma.proofs.representatives.tells.Goals.{else-program-via-then-program+else-not-tells_sets, else-program-via-else-program}
use Rattle.strkw_ecma.proofs.representatives.tells.Goals as goal

pub loop-class-init : goal.loop-class-init
loop-class-init c = λ k h. absurd (omega (arith, h))

pub loop-class-preserved : goal.loop-class-preserved
loop-class-preserved c =
    let known = c.args.classes.now in
    let items = c.args.program.now.code.classes.items in
    let n = c.loop-class.class-index in
    let item = c.class-item.result in
    let within : n < length items = omega (arith, ap length c.deref-class-items.ensures.value, c.loop-class-test.true) in
    let told : TellsSets known item.sets.items =
    subst (TellsSets known) c.deref.ensures.value (c.tells_sets-in-loop-class.ensures c.if-not-tells_sets-2.false) in
    one_more (λ k. (d : Class) → TellsSets known (get_or items k d).sets.items) n
    (λ d.
    subst (λ (class : Class). TellsSets known class.sets.items)
    (c.class-item.is ∙ ap (λ (xs : List Class). get_or xs n item) c.deref-class-items.ensures.value ∙ get_or_default items n item d within)
    told)
    c.loop-class.invariant

pub returns : goal.returns
returns c h =
    let p = c.args.program.now in
    let word : has_boundary (pattern_of p) ≡ true → TellsSets c.args.classes.now word_characters =
    λ asked. elim c.else-program.branch [
      | else-program-via-then-program+else-not-tells_sets w ↦ w.tells_sets.ensures w.if-not-tells_sets.false
      | else-program-via-else-program w ↦ absurd (true≢false (sym asked ∙ sym p.boundary ∙ w.if-program.false))
    ] in
    pattern_told c.args.classes.now (pattern_of p) p.code.classes.items p.code.instructions.items p.right p.within
    (λ k d within. c.loop-class.invariant k (omega (arith, within, ap length c.deref-class-items.ensures.value, c.loop-class-test.false)) d)
    word
