use Rattle.std.proofs.Common.{◌≡◌, ◌++◌, ◌∷◌, [], ℕ, suc, length, replicate, sym, ap, ap₂, subst, ◌∙◌, take-append-drop, length-take-le, arith}
use Rattle.std.specs.Str.{IsAscii}
use Rattle.strkw_ecma.proofs.Linked.{parts_passed, ascii_take, ascii_drop}
use Rattle.strkw_ecma.proofs.links.are_of.Goals as goal

pub have_four-requires-clause-ascii : goal.have_four-requires-clause-ascii
have_four-requires-clause-ascii c =
    subst IsAscii (sym c.in-Some.ensures.cases.0) (ascii_take 4 c.fours.left.now c.fours.invariant.ascii)

pub fours-preserved : goal.fours-preserved
fours-preserved c =
    let before = c.fours.invariant in
    let bytes = c.in-Some.ensures.cases in
    let n = c.args.number in
    let left = c.fours.left.now in
    let all : left ≡ c.in-Some.next.now ++ c.in-Some.rest.now = sym (ap₂ ◌++◌ bytes.0 bytes.1 ∙ take-append-drop 4 left) in
    let four : length c.in-Some.next.now ≡ 4 = ap length bytes.0 ∙ length-take-le 4 left (omega (arith, bytes.2)) in
    let more : length left ≡ suc (suc (suc (suc (length c.in-Some.rest.now)))) = omega (arith, bytes.2) in
    record {
      ascii = subst IsAscii (sym bytes.1) (ascii_drop 4 left before.ascii);
      so_far = λ classes tables.
          parts_passed classes (replicate (length left) n) (n ∷ n ∷ n ∷ n ∷ []) (replicate (length c.in-Some.rest.now) n) left
          c.in-Some.next.now c.in-Some.rest.now (ap (λ (m : ℕ). replicate m n) more) all (sym four)
          (sym (c.have_four.ensures classes tables) ∙ c.if-not-have_four.false)
          ∙ before.so_far classes tables;
    }
