use Rattle.std.proofs.Common.{◌≡◌, ℕ, List, ap, ◌∙◌, ◌∷◌, length, arith}
use Rattle.std.specs.String.{string_bytes}
use Rattle.std.proofs.lemmas.List.Sorted.{IsPermutation-map}
use Rattle.strkw_pattern.proofs.Texts.{sorted_texts}
use Rattle.strkw_pattern.proofs.Analyses.{long_literal, no_literal-group}
use Rattle.strkw_pattern.proofs.literal.analyze.Goals as goal

pub returns-in_default-split_front : goal.returns-in_default-split_front
returns-in_default-split_front c = λ is.
    let long = (long_literal c.args.pattern.now is).1 in
    let e0 = ap length c.in-Some.ensures in
    let e1 = ap length c.in_default-split_front.ensures in
    omega (arith, long, e0, e1)

pub returns-in_default-2 : goal.returns-in_default-2
returns-in_default-2 c =
    let whole : c.args.pattern.now ≡ 94 ∷ 40 ∷ c.in-Some-split_front.group.now =
    cc (c.in-Some.ensures, c.in-Some-split_front.ensures, c.if-start-ne94.false, c.if-first-ne40.false) in
    let none = rw c.in_default-2.is at c.in_ok-alternatives.ensures in
    λ is. no_literal-group c.in-Some-split_front.group.now none (rw whole at is)

pub returns : goal.returns
returns c =
    let whole : c.args.pattern.now ≡ 94 ∷ 40 ∷ c.in-Some-split_front.group.now =
    cc (c.in-Some.ensures, c.in-Some-split_front.ensures, c.if-start-ne94.false, c.if-first-ne40.false) in
    let read = rw c.in-Some-2.is at c.in_ok-alternatives.ensures in (
      read.0,
      read.1,
      whole ∙ ap (λ (r : List ℕ). 94 ∷ 40 ∷ r) read.2,
      record {
        same = rw (← read.3) (IsPermutation-map string_bytes _ _ c.sort_unstable.ensures.permutation);
        ordered = sorted_texts _ c.sort_unstable.ensures.sorted;
      },
    )
