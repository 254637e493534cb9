use Rattle.std.proofs.Common.{◌≡◌, ◌∙◌, ◌∷◌, ◌-◌, ◌+◌, ap, sym, drop, get_or, take, length}
use Rattle.std.proofs.Math.Path.{ap₂}
use Rattle.std.proofs.lemmas.List.{at_drop_all, at_drop_more}
use Rattle.neldrafi_uri.specs.Resolution.{without_dots}
use Rattle.neldrafi_uri.specs.machine.Paths.{path_then}
use Rattle.neldrafi_uri.specs.machine.Texts.{begun, texts}
use Rattle.neldrafi_uri.proofs.Dots.{first_and_others, is_last, none}
use Rattle.neldrafi_uri.proofs.paths.Path.without_dots.Goals as goal

pub loop-index-preserved : goal.loop-index-preserved
loop-index-preserved c =
    let slice = c.behind_dots.result.now in
    let others = take (length slice - 1) (drop 1 slice) in
    let i = c.loop-index.index in
    c.in_ok-add.ensures (texts (drop (i + 1) others)) (is_last others i c.loop-index-test.true)
    ∙ sym (at_drop_more (λ ss. path_then c.loop-index.path (texts ss)) others i none c.loop-index-test.true)
    ∙ c.loop-index.invariant

pub returns : goal.returns
returns c =
    let slice = c.behind_dots.result.now in
    let others = take (length slice - 1) (drop 1 slice) in
    let begin = c.unchanged-path.result in
    let whole : slice ≡ get_or slice 0 none ∷ others = first_and_others slice none c.in-len1-up.len_at_least in
    sym (at_drop_all (λ ss. path_then c.loop-index.path (texts ss)) others c.loop-index.index c.loop-index-test.false)
    ∙ c.loop-index.invariant
    ∙ ap₂ (λ first before. without_dots first before (texts others)) c.unchanged-path.ensures.first (ap texts c.unchanged-path.ensures.others)
    ∙ sym (ap (λ ss. begun (texts ss)) whole) ∙ c.behind_dots.ensures
