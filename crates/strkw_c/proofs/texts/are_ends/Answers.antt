use Rattle.std.proofs.Common.{◌≡◌, [], IsTrue, false, length, drop, refl, arith}
use Rattle.std.proofs.lemmas.Grind.{common_steps}
use Rattle.std.proofs.lemmas.List.{drop_all}
use Rattle.strkw_c.specs.Texts.{numbers}
use Rattle.strkw_c.proofs.TextLemmas.{Ascend, ascends, are_texts, starts_within, texts_from}
use Rattle.strkw_c.proofs.texts.are_ends.Goals as goal

pub returns-then-bytes-start : goal.returns-then-bytes-start
returns-then-bytes-start c =
    (λ never. cc never, λ there. absurd (omega (arith, c.if-bytes-start.true, starts_within c.args.bytes.now c.args.start _ there.0 there.1)))

pub returns-then-end-from : goal.returns-then-end-from
returns-then-end-from c =
    let broken : Ascend (length c.args.bytes.now) c.loop-place.from (drop c.loop-place.place (numbers c.args.ends.now))
    → IsTrue false = grind (arith, common_steps) in
    (λ never. cc never, λ there. broken (c.loop-place.invariant.0 (ascends c.args.bytes.now c.args.start (numbers c.args.ends.now) there.0 there.1)))

pub returns : goal.returns
returns c =
    let ends = numbers c.args.ends.now in
    let none : drop c.loop-place.place ends ≡ [] = drop_all c.loop-place.place ends (omega (arith, c.loop-place-test.false)) in
    let up = c.loop-place.invariant.1 (rw none tt) in (
      λ yes. (
        texts_from c.args.bytes.now c.args.start ends,
        are_texts c.args.bytes.now c.args.start ends (omega (arith, c.if-bytes-start.false)) up,
      ),
      λ there. refl,
    )
