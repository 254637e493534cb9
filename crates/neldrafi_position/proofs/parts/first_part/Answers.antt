use Rattle.std.proofs.Common.{◌≡◌, ◌∙◌, ◌<◌, ◌+◌, length, get_or, drop, ap, sym}
use Rattle.std.proofs.lemmas.Str.{IsCharBoundary-after_ascii}
use Rattle.neldrafi_position.specs.Parts.{behind_separators, parts}
use Rattle.neldrafi_position.proofs.Texts.{cut_at}
use Rattle.neldrafi_position.proofs.parts.first_part.Goals as goal

pub range_from-requires : goal.range_from-requires
range_from-requires c =
    let text = c.args.text.now in
    let end = c.in_ok-end.end in
    let inside : end < length text = rw c.as_bytes.ensures.value at c.in_ok-end.ensures.0 in
    let low : get_or text end 0 < 128 = rw c.as_bytes.ensures.value at c.in_ok-end.ensures.1 in
    λ h. IsCharBoundary-after_ascii text end c.utf8.text inside low

pub returns : goal.returns
returns c =
    let text = c.args.text.now in
    let end = c.in_ok-end.end in
    let inside : end < length text = rw c.as_bytes.ensures.value at c.in_ok-end.ensures.0 in
    let others : behind_separators 0 text ≡ parts (drop (end + 1) text) = rw c.as_bytes.ensures.value at c.in_ok-end.ensures.2 in
    cut_at text c.range.result.now c.range_from.result.now end inside c.range.ensures.value c.range_from.ensures.value c.range.utf8 c.range_from.utf8
    (others ∙ ap parts (sym c.range_from.ensures.value))
