use Rattle.std.proofs.Common.{◌≡◌, ℕ, ◌<◌, length, sym, ap, ◌∙◌, arith, ◌++◌, List, true}
use Rattle.std.proofs.lemmas.Slice.Eq.{bytes_eq-Decides}
use Rattle.std.specs.Str.{bytes_eq}
use Rattle.std.specs.String.{string_bytes}
use Rattle.strkw_pattern.specs.Literal.{spelling_of}
use Rattle.strkw_pattern.proofs.Runs.{no_run, some_left, none_left, read_some}
use Rattle.strkw_pattern.proofs.literal.analyze_run.Goals as goal

pub returns-then-is_empty : goal.returns-then-is_empty
returns-then-is_empty c =
    let none = none_left _ (sym c.is_empty.ensures ∙ c.if-is_empty.true) in
    no_run c.args.pattern.now (string_bytes c.in_ok-text.text) c.in_ok-text.rest.now c.in_ok-text.ensures
    (λ some. absurd (let same = ap length c.as_bytes.ensures.value in omega (arith, none, some, same)))

pub returns-then-eq : goal.returns-then-eq
returns-then-eq c =
    let reads = c.in_ok-text.ensures in
    let some : 0 < length (string_bytes c.in_ok-text.text) =
    (let left = some_left _ (sym c.is_empty.ensures ∙ c.if-is_empty.false) in let same = ap length c.as_bytes.ensures.value in omega (arith, left, same)) in
    let is = (bytes_eq-Decides c.in_ok-text.rest.now c.as_slice.result.now).0 (sym c.eq.ensures ∙ c.if-eq.true) in
    (reads.0, read_some reads.0 _ reads.3 reads.1 some, reads.2 ∙ ap (λ (r : List ℕ). spelling_of reads.0 ++ r) (is ∙ c.as_slice.ensures), reads.3)

pub returns : goal.returns
returns c =
    no_run c.args.pattern.now (string_bytes c.in_ok-text.text) c.in_ok-text.rest.now c.in_ok-text.ensures (λ some. (
      λ e.
          let left = some_left _ (sym c.is_empty-2.ensures ∙ c.if-is_empty-2.false) in
          let len = ap length e in
          omega (arith, left, len),
      λ e.
          let yes : bytes_eq c.in_ok-text.rest.now c.as_slice.result.now ≡ true = (bytes_eq-Decides _ _).1 (e ∙ sym c.as_slice.ensures) in
          let no = sym c.eq.ensures ∙ c.if-eq.false in
          cc (yes, no),
    ))
