use Rattle.std.proofs.Common.{arith, ◌≡◌, ◌∙◌, ◌+◌, Some, refl, rules, sym}
use Rattle.std.specs.Prelude.{slice_get}
use Rattle.neldrafi_csv.specs.Grammar.{quote}
use Rattle.neldrafi_csv.proofs.ScanLemmas.{all-inside, closes-there, pair-inside}
use Rattle.neldrafi_csv.proofs.scan.closing_quote.Goals as goal

pub returns-in_default-clause-none : goal.returns-in_default-clause-none
returns-in_default-clause-none c =
    let known = c.pairs.invariant in (
      all-inside c.args.inside.now known.value c.pairs.count c.pairs.shape known.escaped known.shaped (λ k low high. c.in_default.ensures k low high),
      refl,
    )

pub pairs-preserved : goal.pairs-preserved
pairs-preserved c =
    let known = c.pairs.invariant in
    let next : slice_get c.args.inside.now (c.pairs.count + c.in-Some.ahead + 1) ≡ Some quote = sym c.byte_at.ensures ∙ search rules in
    pair-inside c.args.inside.now known.value c.pairs.count c.in-Some.ahead c.pairs.shape known.escaped known.shaped known.within c.in-Some.ensures next

pub returns-in_default-byte_at-clause-found : goal.returns-in_default-byte_at-clause-found
returns-in_default-byte_at-clause-found c =
    let known = c.pairs.invariant in
    closes-there c.args.inside.now known.value c.pairs.count c.in-Some.ahead c.pairs.shape known.escaped known.shaped known.within c.in-Some.ensures
    (λ e. grind (arith, e, c.in_default-byte_at.is, c.byte_at.ensures, c.in_default-byte_at.field-0-test, c.in_default-byte_at.field-0-is))

pub returns-in_default-byte_at-2-clause-found : goal.returns-in_default-byte_at-2-clause-found
returns-in_default-byte_at-2-clause-found c =
    let known = c.pairs.invariant in
    closes-there c.args.inside.now known.value c.pairs.count c.in-Some.ahead c.pairs.shape known.escaped known.shaped known.within c.in-Some.ensures
    (λ e. cc (c.in_default-byte_at.is, c.byte_at.ensures, e))
