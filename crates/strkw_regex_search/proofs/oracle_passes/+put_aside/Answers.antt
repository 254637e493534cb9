use Rattle.std.proofs.Common.{arith, ◌≡◌, ◌∙◌, true, false, refl, sym, ap, subst}
use Rattle.std.proofs.lemmas.Result.{IfOk-weaker}
use Rattle.strkw_regex_core.specs.machine.MarkedPattern.{alt}
use Rattle.strkw_regex_core.specs.machine.Times.{quantified_pattern}
use Rattle.strkw_regex_core.specs.machine.Shape.{is_never, outline_pattern, quantifier_of}
use Rattle.strkw_regex_search.specs.machine.OraclePasses.{IsSmall}
use Rattle.strkw_regex_core.specs.machine.Positions.{is_unmarked}
use Rattle.strkw_regex_search.proofs.OracleSplit.{number_set}
use Rattle.strkw_regex_search.proofs.OracleSplitting.{turned_bare, turned_small, cat_bare, cat_small, alt_bare, alt_small, repeated_bare, repeated_small}
use Rattle.strkw_regex_search.proofs.OracleSplitting.{behind_small}
use Rattle.strkw_regex_search.proofs.OracleSplitting.{ahead_small}
use Rattle.strkw_regex_search.proofs.OracleSplitting.{fresh_set, others_put, start_put, end_put, class_put, never_put, or_put, then_put, repeated_put}
use Rattle.strkw_regex_search.proofs.OracleSplitting.{behind_found}
use Rattle.strkw_regex_search.proofs.OracleSplitting.{ahead_found, mark_put, look_put}
use Rattle.strkw_regex_search.proofs.OracleCode.{quests_append, quests_count}
use Rattle.strkw_regex_core.proofs.Shapes.{outlined-Empty, outlined-Start, outlined-End, outlined-Class, outlined-Then, outlined-Or}
use Rattle.strkw_regex_core.proofs.Shapes.{outlined-Repeated}
use Rattle.strkw_regex_core.proofs.Shapes.{outlined-Behind, outlined-Ahead}
use Rattle.strkw_regex_search.specs.machine.OracleRunners.{quests}
use Rattle.strkw_regex_search.proofs.Weights.{weight, weight_then, weight_or, weight_repeated, weight_behind, weight_ahead}
use Rattle.strkw_regex_search.proofs.oracle_passes.+put_aside.Goals as goal

-- what is asked of the parts
pub put_aside-put_both-requires : goal.put_aside-put_both-requires
put_aside-put_both-requires t c = (
  omega (arith, c.decreases, weight_then c.args.outline c.in-Then.first c.in-Then.second c.in-Then.is),
  record {
    bare = turned_bare (outline_pattern c.args.outline) _ _ (ap outline_pattern c.in-Then.is ∙ outlined-Then c.in-Then.first c.in-Then.second) c.requires.bare;
    small = turned_small (outline_pattern c.args.outline) _ _ (ap outline_pattern c.in-Then.is ∙ outlined-Then c.in-Then.first c.in-Then.second) c.requires.small;
  },
)

pub put_aside-put_both-requires-else-is_backward : goal.put_aside-put_both-requires-else-is_backward
put_aside-put_both-requires-else-is_backward t c =
    let shape = ap outline_pattern c.in-Then.is ∙ outlined-Then c.in-Then.first c.in-Then.second in (
      omega (arith, c.decreases, weight_then c.args.outline c.in-Then.first c.in-Then.second c.in-Then.is),
      record { bare = sym (ap is_unmarked shape) ∙ c.requires.bare; small = subst IsSmall shape c.requires.small },
    )

pub put_aside-put_aside-requires : goal.put_aside-put_aside-requires
put_aside-put_aside-requires t c = (
  omega (arith, c.decreases, weight_or c.args.outline c.in-Or.one c.in-Or.other c.in-Or.is, ap weight c.into_inner.ensures),
  record {
    bare = ap (λ o. is_unmarked (outline_pattern o)) c.into_inner.ensures
        ∙ (alt_bare (outline_pattern c.args.outline) _ _ (ap outline_pattern c.in-Or.is ∙ outlined-Or c.in-Or.one c.in-Or.other) c.requires.bare).0;
    small = subst (λ o. IsSmall (outline_pattern o)) (sym c.into_inner.ensures)
        (alt_small (outline_pattern c.args.outline) _ _ (ap outline_pattern c.in-Or.is ∙ outlined-Or c.in-Or.one c.in-Or.other) c.requires.small).0;
  },
)

pub put_aside-put_aside-requires-in-Or : goal.put_aside-put_aside-requires-in-Or
put_aside-put_aside-requires-in-Or t c = (
  omega (arith, c.decreases, weight_or c.args.outline c.in-Or.one c.in-Or.other c.in-Or.is, ap weight c.into_inner-in-Or.ensures),
  record {
    bare = ap (λ o. is_unmarked (outline_pattern o)) c.into_inner-in-Or.ensures
        ∙ (alt_bare (outline_pattern c.args.outline) _ _ (ap outline_pattern c.in-Or.is ∙ outlined-Or c.in-Or.one c.in-Or.other) c.requires.bare).1;
    small = subst (λ o. IsSmall (outline_pattern o)) (sym c.into_inner-in-Or.ensures)
        (alt_small (outline_pattern c.args.outline) _ _ (ap outline_pattern c.in-Or.is ∙ outlined-Or c.in-Or.one c.in-Or.other) c.requires.small).1;
  },
)

pub put_aside-put_aside-requires-in-Repeated : goal.put_aside-put_aside-requires-in-Repeated
put_aside-put_aside-requires-in-Repeated t c =
    let times = quantifier_of c.in-Repeated.quantifier in
    let some : is_never times ≡ false = cc in
    let less = weight_repeated c.args.outline c.in-Repeated.quantifier c.in-Repeated.body c.in-Repeated.is in (
      omega (arith, c.decreases, less, ap weight c.into_inner-in-Repeated.ensures),
      record {
        bare = ap (λ o. is_unmarked (outline_pattern o)) c.into_inner-in-Repeated.ensures
            ∙ repeated_bare times (outline_pattern c.args.outline) _
            (ap outline_pattern c.in-Repeated.is ∙ outlined-Repeated c.in-Repeated.quantifier c.in-Repeated.body) some
            c.requires.bare;
        small = subst (λ o. IsSmall (outline_pattern o)) (sym c.into_inner-in-Repeated.ensures)
            (repeated_small times (outline_pattern c.args.outline) _
            (ap outline_pattern c.in-Repeated.is ∙ outlined-Repeated c.in-Repeated.quantifier c.in-Repeated.body) some
            c.requires.small);
      },
    )

pub put_aside-put_look-requires : goal.put_aside-put_look-requires
put_aside-put_look-requires t c = (
  omega (arith, c.decreases, weight_behind c.args.outline c.in-Behind.negated c.in-Behind.body c.in-Behind.is, ap weight c.into_inner-body.ensures),
  record {
    bare = ap (λ o. is_unmarked (outline_pattern o)) c.into_inner-body.ensures
        ∙ sym (ap is_unmarked (ap outline_pattern c.in-Behind.is ∙ outlined-Behind c.in-Behind.negated c.in-Behind.body)) ∙ c.requires.bare;
    small = subst (λ o. IsSmall (outline_pattern o)) (sym c.into_inner-body.ensures)
        (behind_small c.in-Behind.negated (outline_pattern c.args.outline) _
        (ap outline_pattern c.in-Behind.is ∙ outlined-Behind c.in-Behind.negated c.in-Behind.body)
        c.requires.small);
  },
)

pub put_aside-put_look-requires-in-Ahead : goal.put_aside-put_look-requires-in-Ahead
put_aside-put_look-requires-in-Ahead t c = (
  omega (arith, c.decreases, weight_ahead c.args.outline c.in-Ahead.negated c.in-Ahead.body c.in-Ahead.is, ap weight c.into_inner-body-in-Ahead.ensures),
  record {
    bare = ap (λ o. is_unmarked (outline_pattern o)) c.into_inner-body-in-Ahead.ensures
        ∙ sym (ap is_unmarked (ap outline_pattern c.in-Ahead.is ∙ outlined-Ahead c.in-Ahead.negated c.in-Ahead.body)) ∙ c.requires.bare;
    small = subst (λ o. IsSmall (outline_pattern o)) (sym c.into_inner-body-in-Ahead.ensures)
        (ahead_small c.in-Ahead.negated (outline_pattern c.args.outline) _ (ap outline_pattern c.in-Ahead.is ∙ outlined-Ahead c.in-Ahead.negated c.in-Ahead.body)
        c.requires.small);
  },
)

pub put_both-put_aside-requires : goal.put_both-put_aside-requires
put_both-put_aside-requires t c = (
  omega (arith, c.decreases, ap weight c.into_inner.ensures),
  record {
    bare = ap (λ o. is_unmarked (outline_pattern o)) c.into_inner.ensures
        ∙ (cat_bare _ (outline_pattern c.args.first.value) (outline_pattern c.args.second.value) refl c.requires.bare).0;
    small = subst (λ o. IsSmall (outline_pattern o)) (sym c.into_inner.ensures)
        (cat_small _ (outline_pattern c.args.first.value) (outline_pattern c.args.second.value) refl c.requires.small).0;
  },
)

pub put_both-put_aside-requires-2 : goal.put_both-put_aside-requires-2
put_both-put_aside-requires-2 t c = (
  omega (arith, c.decreases, ap weight c.into_inner-2.ensures),
  record {
    bare = ap (λ o. is_unmarked (outline_pattern o)) c.into_inner-2.ensures
        ∙ (cat_bare _ (outline_pattern c.args.first.value) (outline_pattern c.args.second.value) refl c.requires.bare).1;
    small = subst (λ o. IsSmall (outline_pattern o)) (sym c.into_inner-2.ensures)
        (cat_small _ (outline_pattern c.args.first.value) (outline_pattern c.args.second.value) refl c.requires.small).1;
  },
)

-- what is left, arm by arm
pub put_aside-returns-in-Start : goal.put_aside-returns-in-Start
put_aside-returns-in-Start t c = λ fs are.
    start_put c.args.is_backward fs _ are (outline_pattern c.args.outline) _ _ _ refl (ap outline_pattern c.in-Start.is ∙ outlined-Start) c.edge.ensures

pub put_aside-returns-in-End : goal.put_aside-returns-in-End
put_aside-returns-in-End t c = λ fs are.
    end_put c.args.is_backward fs _ are (outline_pattern c.args.outline) _ _ (ap outline_pattern c.in-End.is ∙ outlined-End) c.edge-in-End.ensures

pub put_aside-returns-in_ok-push-in-Class : goal.put_aside-returns-in_ok-push-in-Class
put_aside-returns-in_ok-push-in-Class t c = λ fs are.
    class_put c.args.is_backward fs _ are c.in-Class.negated c.in-Class.sets.items (outline_pattern c.args.outline) _ _ _
    (ap outline_pattern c.in-Class.is ∙ outlined-Class c.in-Class.negated c.in-Class.sets) (outlined-Class c.in-Class.negated c.in-Class.sets)
    c.in_ok-push-in-Class.ensures.items

pub put_aside-returns-in_ok-other-in-Or : goal.put_aside-returns-in_ok-other-in-Or
put_aside-returns-in_ok-other-in-Or t c =
    let shape : outline_pattern c.args.outline ≡ alt (outline_pattern c.into_inner.result) (outline_pattern c.into_inner-in-Or.result) =
    cc (c.in-Or.is, c.into_inner.ensures, c.into_inner-in-Or.ensures, outlined-Or c.in-Or.one c.in-Or.other) in
    IfOk-weaker c.or.result _ _
    (λ o made fs are.
    let first = c.in_ok-one-in-Or.ensures fs are in
    or_put c.args.is_backward fs (outline_pattern c.args.outline) _ _ _ _ _ _ _ _ _ _ shape first (c.in_ok-other-in-Or.ensures _ first.asides) made)
    c.or.ensures.pattern

pub put_aside-returns-then-is_never : goal.put_aside-returns-then-is_never
put_aside-returns-then-is_never t c =
    let times = quantifier_of c.in-Repeated.quantifier in
    let never : is_never times ≡ true = cc in
    IfOk-weaker c.repeat.result _ _
    (λ o made fs are.
    never_put c.args.is_backward fs _ are times (outline_pattern c.args.outline) _ _ _
    (ap outline_pattern c.in-Repeated.is ∙ outlined-Repeated c.in-Repeated.quantifier c.in-Repeated.body) never
    (made ∙ ap (quantified_pattern times) outlined-Empty))
    c.repeat.ensures

pub put_aside-returns-in_ok-add_copies-in-Repeated : goal.put_aside-returns-in_ok-add_copies-in-Repeated
put_aside-returns-in_ok-add_copies-in-Repeated t c =
    let times = quantifier_of c.in-Repeated.quantifier in
    let shape : outline_pattern c.args.outline ≡ quantified_pattern times (outline_pattern c.into_inner-in-Repeated.result) =
    cc (c.in-Repeated.is, c.into_inner-in-Repeated.ensures, outlined-Repeated c.in-Repeated.quantifier c.in-Repeated.body) in
    IfOk-weaker c.repeat-in-Repeated.result _ _
    (λ o made fs are.
    repeated_put c.args.is_backward fs times (outline_pattern c.args.outline) _ _ _ _ _ _ _ _ _ _ shape c.new-own.ensures.items
    (c.in_ok-body-in-Repeated.ensures fs are) c.in_ok-add_copies-in-Repeated.ensures c.copy_count.ensures c.deref-in-Repeated.ensures.value made)
    c.repeat-in-Repeated.ensures

pub put_aside-returns-in-Behind : goal.put_aside-returns-in-Behind
put_aside-returns-in-Behind t c =
    IfOk-weaker c.put_look.result _ _
    (λ o puts fs are.
    behind_found c.args.is_backward fs c.in-Behind.negated (outline_pattern c.args.outline) _ _ _ _ _ _
    (ap outline_pattern c.in-Behind.is ∙ outlined-Behind c.in-Behind.negated c.in-Behind.body) (ap outline_pattern c.into_inner-body.ensures) (puts fs are))
    c.put_look.ensures

pub put_aside-returns-in-Ahead : goal.put_aside-returns-in-Ahead
put_aside-returns-in-Ahead t c =
    IfOk-weaker c.put_look-in-Ahead.result _ _
    (λ o puts fs are.
    ahead_found c.args.is_backward fs c.in-Ahead.negated _ (outline_pattern c.args.outline) _ _ _ _ _ _ refl
    (ap outline_pattern c.in-Ahead.is ∙ outlined-Ahead c.in-Ahead.negated c.in-Ahead.body) (ap outline_pattern c.into_inner-body-in-Ahead.ensures)
    (puts fs are))
    c.put_look-in-Ahead.ensures

pub put_aside-returns-in_default : goal.put_aside-returns-in_default
put_aside-returns-in_default t c = λ fs are.
    others_put c.args.is_backward fs _ are c.args.outline _ c.in_default.not-Start c.in_default.not-End c.in_default.not-Class c.in_default.not-Then
    c.in_default.not-Or c.in_default.not-Repeated c.in_default.not-Behind c.in_default.not-Ahead

pub put_both-returns : goal.put_both-returns
put_both-returns t c =
    IfOk-weaker c.then.result _ _
    (λ o made fs are.
    let first = c.in_ok-first.ensures fs are in
    then_put c.args.is_backward fs _ _ _ _ _ _ _ _ _ _ _ _ (ap outline_pattern c.into_inner.ensures) (ap outline_pattern c.into_inner-2.ensures) first
    (c.in_ok-second.ensures _ first.asides) made)
    c.then.ensures.pattern

pub put_look-returns-in_ok-push : goal.put_look-returns-in_ok-push
put_look-returns-in_ok-push t c =
    IfOk-weaker c.slot.result _ _
    (λ o made fs are.
    mark_put c.args.is_backward fs _ c.args.negated _ (outline_pattern c.args.outline) _ _ _ _ _ c.if-is_ahead.true refl (c.in_ok-number.ensures fs are)
    c.in_ok-push.ensures.items made)
    c.slot.ensures

pub put_look-returns-in_ok-body : goal.put_look-returns-in_ok-body
put_look-returns-in_ok-body t c =
    IfOk-weaker c.into_lookbehind.result _ _
    (λ o made fs are.
    look_put c.args.is_backward fs _ c.args.negated (outline_pattern c.args.outline) _ _ _ _ _ c.if-is_ahead.false (c.in_ok-body.ensures fs are) made)
    c.into_lookbehind.ensures

pub set_aside-returns : goal.set_aside-returns
set_aside-returns t c = λ fs are.
    fresh_set c.args.is_backward fs (outline_pattern c.args.outline) _ _ _ _ _ c.new-told.ensures.items (c.in_ok-pattern.ensures fs are) c.requires.bare
    c.requires.small refl refl refl

pub add_aside-returns : goal.add_aside-returns
add_aside-returns t c = λ fs are.
    number_set c.args.is_backward fs (outline_pattern c.args.outline) _ _ _ _ (c.in_ok-aside.ensures fs are)
    (c.len-number.ensures ∙ c.set_aside.new.asides.ok.0 ∙ sym (quests_count c.set_aside.new.asides.items))
    (ap quests c.in_ok-push.ensures.items ∙ quests_append c.set_aside.new.asides.items _)
