use Rattle.std.proofs.Common.{refl, IsTrue, rules}
use Rattle.std.proofs.lemmas.List.{take_all}
use Rattle.strkw_keywords.specs.Handed.{lists_of}
use Rattle.strkw_keywords.proofs.Reports.{valid_by_findings}
use Rattle.strkw_object.proofs.Many.{in_use_at, nothing_at, nothing_more, quiet_at}
use Rattle.strkw_object.proofs.strings.StringKeywords.is_valid.Goals as goal

pub findings-requires : goal.findings-requires
findings-requires g c =
    let checks = (lists_of (λ b. (goal.Format-dyn g b).admits b.1) (λ b. (goal.MediaTypeCheck-dyn g b).accepts b.1)
    (λ b. (goal.ContentCodec-dyn g b).is_encoding b.1) (λ b. (goal.ContentCodec-dyn g b).decoding b.1) c.args.checks.now) in
    in_use_at g.E.RegexEngine.outcome checks c.args.self.now.validators.items c.loop-validator.validator-index c.validator-item.result
    (rw c.deref-validator-items.ensures.value at c.loop-validator-test.true)
    (rw c.deref-validator-items.ensures.value at c.validator-item.is)
    c.requires

pub returns-then-not-is_empty-clause-exact : goal.returns-then-not-is_empty-clause-exact
returns-then-not-is_empty-clause-exact g c = λ site.
    let checks = (lists_of (λ b. (goal.Format-dyn g b).admits b.1) (λ b. (goal.MediaTypeCheck-dyn g b).accepts b.1)
    (λ b. (goal.ContentCodec-dyn g b).is_encoding b.1) (λ b. (goal.ContentCodec-dyn g b).decoding b.1) c.args.checks.now) in (
      (λ no. absurd (cc)),
      (λ r.
          let part = nothing_at g.E.RegexEngine.outcome checks site (g.N.Node.text c.args.node.now) c.args.self.now.validators.items
          c.loop-validator.validator-index c.validator-item.result
          (rw c.deref-validator-items.ensures.value at c.loop-validator-test.true)
          (rw c.deref-validator-items.ensures.value at c.validator-item.is) r in
          let yes = (valid_by_findings c.encodes_once.ensures _ _ _ _ _ _ c.is_empty.result c.in-Some.ensures c.in_ok-findings.ensures.found c.is_empty.ensures
          site).1 part in
          cc),
    )

pub loop-validator-preserved : goal.loop-validator-preserved
loop-validator-preserved g c =
    let checks = (lists_of (λ b. (goal.Format-dyn g b).admits b.1) (λ b. (goal.MediaTypeCheck-dyn g b).accepts b.1)
    (λ b. (goal.ContentCodec-dyn g b).is_encoding b.1) (λ b. (goal.ContentCodec-dyn g b).decoding b.1) c.args.checks.now) in
    let yes : IsTrue c.is_empty.result = search rules in
    nothing_more g.E.RegexEngine.outcome checks (g.N.Node.text c.args.node.now) c.args.self.now.validators.items c.loop-validator.validator-index
    c.validator-item.result
    (rw c.deref-validator-items.ensures.value at c.loop-validator-test.true)
    (rw c.deref-validator-items.ensures.value at c.validator-item.is)
    c.loop-validator.invariant
    (λ site. (valid_by_findings c.encodes_once.ensures _ _ _ _ _ _ c.is_empty.result c.in-Some.ensures c.in_ok-findings.ensures.found c.is_empty.ensures site).0
    yes)

pub returns-clause-exact : goal.returns-clause-exact
returns-clause-exact g c = λ site.
    let whole = take_all c.loop-validator.validator-index c.args.self.now.validators.items
    (rw c.deref-validator-items.ensures.value at c.loop-validator-test.false) in
    ((λ _. rw whole at (c.loop-validator.invariant site)), (λ _. refl))

pub returns-in_err-findings-clause-answers : goal.returns-in_err-findings-clause-answers
returns-in_err-findings-clause-answers g c = λ quiet.
    let one = quiet_at g.E.RegexEngine.outcome c.args.self.now.validators.items c.loop-validator.validator-index c.validator-item.result
    (rw c.deref-validator-items.ensures.value at c.loop-validator-test.true)
    (rw c.deref-validator-items.ensures.value at c.validator-item.is) quiet in
    let fine = c.in_err-findings.ensures.answers one in
    absurd (cc)
