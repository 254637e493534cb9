use Rattle.std.proofs.Common.{◌∙◌, ◌+◌, ◌-◌, get_or, drop, arith, refl, sym}
use Rattle.neldrafi_position.specs.declared.parts.Within.TheVariants.{Escape, Parts, String}
use Rattle.neldrafi_position.proofs.Texts.{kept, string_begins, string_ends, escape_begins, string_goes_on, deeper, closed, inside, other}
use Rattle.neldrafi_position.proofs.parts.first_end.Goals as goal
use Rattle.neldrafi_position.proofs.parts.first_end.Goals.{in-Escape, in-String, in-String-2, in-String-3, in-Parts, in-Parts-2, in-Parts-3+else-depth-eq0, in-Parts-5, in-Parts-5-2}

pub loop-index-preserved : goal.loop-index-preserved
loop-index-preserved c =
    let bytes = c.args.bytes.now in
    let i = c.loop-index.index in
    let b = get_or bytes i 0 in
    let rest = drop (i + 1) bytes in
    let depth = c.loop-index.depth in
    let went = kept bytes i depth c.match-within.depth c.loop-index.within c.match-within.within c.loop-index-test.true in
    let all = c.loop-index.invariant.left in
    elim c.match-within.branch [
      | in-Escape w ↦ record { few = omega arith; left = went Escape String depth w.in-Escape.is w.within-is w.depth-is refl all }
      | in-String w ↦ record {
        few = omega arith;
        left = went String Parts depth w.in-String.is w.within-is w.depth-is (string_ends depth b rest w.if-byte-eq34.true) all;
      }
      | in-String-2 w ↦ record {
        few = omega arith;
        left = went String Escape depth w.in-String.is w.within-is w.depth-is (escape_begins depth b rest w.if-byte-eq34.false w.if-byte-eq92.true) all;
      }
      | in-String-3 w ↦ record {
        few = omega arith;
        left = went String String depth w.in-String.is (w.within-is ∙ w.in-String.is) w.depth-is
            (string_goes_on depth b rest w.if-byte-eq34.false w.if-byte-eq92.false) all;
      }
      | in-Parts w ↦ record {
        few = omega arith;
        left = went Parts String depth w.in-Parts.is w.within-is w.depth-is (string_begins depth b rest w.if-byte-eq34-2.true) all;
      }
      | in-Parts-2 w ↦ record {
        few = omega arith;
        left = went Parts Parts (depth + 1) w.in-Parts.is (w.within-is ∙ w.in-Parts.is) w.depth-is
            (deeper depth b rest w.if-byte-eq34-2.false (sym w.opens.ensures ∙ w.if-opens.true)) all;
      }
      | in-Parts-3+else-depth-eq0 w ↦ record {
        few = omega arith;
        left = went Parts Parts (depth - 1) w.in-Parts.is (w.within-is ∙ w.in-Parts.is) w.depth-is
            (closed depth b rest w.if-byte-eq34-2.false (sym w.opens.ensures ∙ w.if-opens.false) (sym w.closes.ensures ∙ w.if-closes.true) w.if-depth-eq0.false) all;
      }
      | in-Parts-5 w ↦ record {
        few = omega arith;
        left = went Parts Parts depth w.in-Parts.is (w.within-is ∙ w.in-Parts.is) w.depth-is
            (inside depth b rest w.if-byte-eq34-2.false (sym w.opens.ensures ∙ w.if-opens.false) (sym w.closes.ensures ∙ w.if-closes.false)
            (sym w.separates.ensures ∙ w.if-separates.true) w.if-depth-eq0-2.false) all;
      }
      | in-Parts-5-2 w ↦ record {
        few = omega arith;
        left = went Parts Parts depth w.in-Parts.is (w.within-is ∙ w.in-Parts.is) w.depth-is
            (other depth b rest w.if-byte-eq34-2.false (sym w.opens.ensures ∙ w.if-opens.false) (sym w.closes.ensures ∙ w.if-closes.false)
            (sym w.separates.ensures ∙ w.if-separates.false)) all;
      }
    ]
