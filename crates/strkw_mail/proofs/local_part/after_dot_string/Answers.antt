use Rattle.strkw_text.proofs.Equivalences.{iff_trans, MatchOption-map}
use Rattle.strkw_mail.proofs.DotStrings.{dot_step, dot_end, dot_stop, dot_none}
use Rattle.strkw_mail.proofs.local_part.after_dot_string.Goals as goal

pub loop-more-init : goal.loop-more-init
loop-more-init c x = (λ h. h, λ h. h)

pub loop-more-preserved : goal.loop-more-preserved
loop-more-preserved c x = iff_trans (c.loop-more.invariant x)
    (dot_step c.args.charset _ _ _ c.in-Some.ensures.cases c.skip-behind.ensures.run _ c.in-Some-strip.ensures.cases x)

pub returns-in-None : goal.returns-in-None
returns-in-None c = MatchOption-map _ _ _ _ c.strip-in-None.result
    (λ n x h. dot_stop c.args.charset _ _ _ c.in-Some.ensures.cases c.skip-behind.ensures.run c.in-None.ensures.cases n x ((c.loop-more.invariant x).0 h))
    (λ rest e x. iff_trans (c.loop-more.invariant x)
    (dot_end c.args.charset _ _ _ c.in-Some.ensures.cases c.skip-behind.ensures.run c.in-None.ensures.cases rest.now e x))
    c.strip-in-None.ensures.cases

pub returns : goal.returns
returns c x h = dot_none c.args.charset _ c.in_default.ensures.cases x ((c.loop-more.invariant x).0 h)
