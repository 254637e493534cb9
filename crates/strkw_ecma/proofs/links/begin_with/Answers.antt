use Rattle.std.proofs.Common.{◌≡◌, ◌++◌, ℕ, List, length, take, drop, sym, ap, ap₂, subst, ◌∙◌, take-append-drop, length-take-le, arith}
use Rattle.std.specs.Str.{IsAscii}
use Rattle.strkw_ecma.specs.machine.Links.{are_below}
use Rattle.strkw_ecma.proofs.Linked.{parts_passed, below_drop, ascii_take, ascii_drop}
use Rattle.strkw_ecma.proofs.links.begin_with.Goals as goal

pub have_four-requires-clause-ascii : goal.have_four-requires-clause-ascii
have_four-requires-clause-ascii c =
    subst IsAscii (sym c.in-Some-split_first_chunk.ensures.cases.0) (ascii_take 4 c.fours.left.now c.fours.invariant.ascii)

pub fours-preserved : goal.fours-preserved
fours-preserved c =
    let before = c.fours.invariant in
    let numbers = c.in-Some.ensures.cases in
    let bytes = c.in-Some-split_first_chunk.ensures.cases in
    let both = λ (xs ys zs : List ℕ) (e : ys ≡ take 4 xs) (f : zs ≡ drop 4 xs). sym (ap₂ ◌++◌ e f ∙ take-append-drop 4 xs) in
    let long = ap length numbers.0 ∙ length-take-le 4 c.fours.more.now (omega (arith, numbers.2))
    ∙ sym (ap length bytes.0 ∙ length-take-le 4 c.fours.left.now (omega (arith, bytes.2))) in
    record {
      below = ap (are_below (length c.args.tables.now)) numbers.1 ∙ below_drop (length c.args.tables.now) 4 c.fours.more.now before.below;
      ascii = subst IsAscii (sym bytes.1) (ascii_drop 4 c.fours.left.now before.ascii);
      so_far = λ classes tables.
          parts_passed classes c.fours.more.now c.in-Some.four.now c.in-Some.behind.now c.fours.left.now
          c.in-Some-split_first_chunk.next.now c.in-Some-split_first_chunk.rest.now
          (both c.fours.more.now _ _ numbers.0 numbers.1) (both c.fours.left.now _ _ bytes.0 bytes.1) long
          (sym (c.have_four.ensures classes tables) ∙ c.if-not-have_four.false)
          ∙ before.so_far classes tables;
    }
