use Rattle.std.proofs.Common.{◌≡◌}
use Rattle.strkw_regex_core.specs.machine.Program.{is_empty}
use Rattle.strkw_regex_core.specs.machine.Shape.{outline_pattern}
use Rattle.strkw_regex_core.proofs.MirrorEquivalence.{then_made, or_made, repeated_made, behind_made, ahead_made}
use Rattle.strkw_regex_core.proofs.counted_regex.CountedRegex.+mirror.Goals as goal

pub returns-in_ok-second-in-Then : goal.returns-in_ok-second-in-Then
returns-in_ok-second-in-Then t c =
    let one : c.is_nothing.result ≡ is_empty (outline_pattern c.in-Then.first.value) = cc in
    let other : c.is_nothing-in-Then.result ≡ is_empty (outline_pattern c.in-Then.second.value) = cc in
    then_made c.args.self c.join.result c.in-Then.first c.in-Then.second _ _ c.in_ok-first-in-Then.first c.in_ok-second-in-Then.second _ _
    c.in-Then.is c.into_inner.ensures c.into_inner-in-Then.ensures one other c.in_ok-first-in-Then.ensures c.in_ok-second-in-Then.ensures c.join.ensures

pub returns-in_ok-other-in-Or : goal.returns-in_ok-other-in-Or
returns-in_ok-other-in-Or t c =
    or_made c.args.self c.or.result c.in-Or.one c.in-Or.other _ _ c.in_ok-one-in-Or.one c.in_ok-other-in-Or.other c.in-Or.is
    c.into_inner-in-Or.ensures c.into_inner-in-Or-2.ensures c.in_ok-one-in-Or.ensures c.in_ok-other-in-Or.ensures c.or.ensures.pattern

pub returns-in_ok-body-in-Repeated : goal.returns-in_ok-body-in-Repeated
returns-in_ok-body-in-Repeated t c =
    repeated_made c.args.self c.repeat.result c.in-Repeated.body _ c.in_ok-body-in-Repeated.body c.into_inner-in-Repeated.ensures
    c.in_ok-body-in-Repeated.ensures c.in-Repeated.quantifier c.in-Repeated.is c.repeat.ensures

pub returns-in_ok-body-in-Behind : goal.returns-in_ok-body-in-Behind
returns-in_ok-body-in-Behind t c =
    behind_made c.args.self c.into_lookahead.result c.in-Behind.body _ c.in_ok-body-in-Behind.body c.into_inner-in-Behind.ensures
    c.in_ok-body-in-Behind.ensures c.in-Behind.negated c.in-Behind.is c.into_lookahead.ensures

pub returns-in_ok-body-in-Ahead : goal.returns-in_ok-body-in-Ahead
returns-in_ok-body-in-Ahead t c =
    ahead_made c.args.self c.into_lookbehind.result c.in-Ahead.body _ c.in_ok-body-in-Ahead.body c.into_inner-in-Ahead.ensures
    c.in_ok-body-in-Ahead.ensures c.in-Ahead.negated c.in-Ahead.is c.into_lookbehind.ensures
