use Rattle.std.proofs.Common.{◌≡◌, ◌∙◌, ◌<◌, length, arith, refl, true, get_or}
use Rattle.std.proofs.lemmas.Str.{IsCharBoundary-after_ascii, IsCharBoundary-start}
use Rattle.neldrafi_position.specs.Parts.{is_space}
use Rattle.neldrafi_position.proofs.Texts.{space_is_low, spaced}
use Rattle.neldrafi_position.proofs.parts.behind_space.Goals as goal

pub loop-index-init : goal.loop-index-init
loop-index-init c = record { cut = IsCharBoundary-start c.args.text.now c.utf8.text; left = refl }

pub loop-index-preserved : goal.loop-index-preserved
loop-index-preserved c =
    let text = c.args.text.now in
    let i = c.loop-index.index in
    let below : i < length text = omega arith in
    let space : is_space (get_or text i 0) ≡ true = cc in
    record {
      cut = IsCharBoundary-after_ascii text i c.utf8.text below (space_is_low (get_or text i 0) space);
      left = spaced text i below space ∙ c.loop-index.invariant.left;
    }

pub range_from-requires : goal.range_from-requires
range_from-requires c = λ h. c.loop-index.invariant.cut
