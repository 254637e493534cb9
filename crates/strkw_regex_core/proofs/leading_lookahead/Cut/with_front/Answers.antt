use Rattle.std.proofs.Common.{◌∙◌, ap, sym, refl, true≢false}
use Rattle.strkw_regex_core.specs.machine.LeadingLookahead.{is_apart_behind}
use Rattle.strkw_regex_core.specs.machine.MarkedPattern.{cat, look}
use Rattle.strkw_regex_core.specs.Tree.{start}
use Rattle.strkw_regex_core.specs.machine.Shape.{outline_pattern}
use Rattle.strkw_regex_core.specs.declared.leading_lookahead.LeadingLookahead.{LeadingLookahead}
use Rattle.strkw_regex_core.proofs.Fronts.{cuts_apart, far, not_far}
use Rattle.strkw_regex_core.proofs.Shapes.{outlined-Ahead, outlined-Start}
use Rattle.strkw_regex_core.proofs.leading_lookahead.Cut.with_front.Goals as goal

pub returns-in_ok-push-in-Ahead : goal.returns-in_ok-push-in-Ahead
returns-in_ok-push-in-Ahead c p old w =
    let s = c.args.self in
    let body = outline_pattern c.in-Ahead.body.value in
    let whole = ap outline_pattern c.in-Ahead.is ∙ outlined-Ahead c.in-Ahead.negated c.in-Ahead.body in
    let front : LeadingLookahead = record { negated = c.in-Ahead.negated; pattern = c.in_ok-pattern-in-Ahead.pattern } in
    rw whole
    (cuts_apart s s p c.in-Ahead.negated body front old c.args.fronts.now.items c.push.new.self.items w
    (sym (ap (is_apart_behind s.lead) whole) ∙ c.requires) refl refl refl
    (c.in_ok-pattern-in-Ahead.ensures.pattern ∙ ap (λ p. cat p (outline_pattern c.into_inner.result)) outlined-Start
    ∙ ap (λ o. cat (look start) (outline_pattern o)) c.into_inner.ensures)
    c.in_ok-push-in-Ahead.ensures.items)

pub returns-in_default : goal.returns-in_default
returns-in_default c p old w =
    absurd (true≢false (sym (far c.args.self.lead (outline_pattern c.args.term) c.requires) ∙ not_far c.args.term c.in_default.not-Ahead))
