use Rattle.std.proofs.Common.{◌≡◌, ◌+◌, ◌-◌, arith, inl, inr, subst, sym, true, false}
use Rattle.std.proofs.lemmas.Bool.{cases_lt}
use Rattle.strkw_uri.specs.Lanes.{goes_on}
use Rattle.strkw_uri.specs.Scan.{is_part_char}
use Rattle.strkw_uri.specs.declared.part.Syntax.TheVariants.{Rfc3986}
use Rattle.strkw_uri.proofs.plain.run.Goals as goal

pub returns-then-not-goes_on : goal.returns-then-not-goes_on
returns-then-not-goes_on c =
    let q = goes_on (is_part_char Rfc3986 c.args.part) c.args.bytes.now in
    let from = c.args.from in
    let i = c.loop-i.i in
    let e : i ≡ from + (i - from) = omega arith in
    record {
      within = omega arith;
      passed = λ k l. c.loop-i.invariant (from + k) (omega arith) (omega arith);
      stopped = λ l. subst (λ k. q k ≡ false) e (sym c.if-not-goes_on.ensures);
    }

pub loop-i-preserved : goal.loop-i-preserved
loop-i-preserved c k lower upper =
    let q = goes_on (is_part_char Rfc3986 c.args.part) c.args.bytes.now in
    let i = c.loop-i.i in
    elim (cases_lt k i) [
      | inl before ↦ c.loop-i.invariant k lower before
      | inr last ↦ (let e : i ≡ k = omega arith in subst (λ k. q k ≡ true) e (sym c.if-not-goes_on.ensures))
    ]

pub returns : goal.returns
returns c = record {
  within = omega arith;
  passed = λ k l. c.loop-i.invariant (c.args.from + k) (omega arith) (omega arith);
  stopped = λ l. absurd (omega arith);
}
