use Rattle.std.proofs.Common.{◌∙◌, ap, sym}
use Rattle.std.proofs.lemmas.List.{take_rest}
use Rattle.neldrafi_uri.specs.machine.Texts.{begun, texts}
use Rattle.neldrafi_uri.proofs.Dots.{begins, dropped}
use Rattle.neldrafi_uri.proofs.paths.behind_dots.Goals as goal

pub loop-index-preserved : goal.loop-index-preserved
loop-index-preserved c =
    dropped c.args.segments.now c.loop-index.index c.loop-index-test.true (sym c.is_dots.ensures ∙ c.if-not-is_dots.false) ∙ c.loop-index.invariant

pub returns-then-not-is_dots : goal.returns-then-not-is_dots
returns-then-not-is_dots c =
    let segments = c.args.segments.now in
    let i = c.loop-index.index in
    ap (λ ss. begun (texts ss)) (take_rest segments i)
    ∙ begins segments i c.loop-index-test.true (sym c.is_dots.ensures ∙ c.if-not-is_dots.true) ∙ c.loop-index.invariant
