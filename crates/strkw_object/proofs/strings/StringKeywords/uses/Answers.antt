use Rattle.std.proofs.Common.{IsTrue, rules}
use Rattle.strkw_keywords.specs.Handed.{lists_of}
use Rattle.strkw_object.proofs.Many.{in_use_at, use_append, demands_more}
use Rattle.strkw_object.proofs.strings.StringKeywords.uses.Goals as goal

pub returns-then-not-uses : goal.returns-then-not-uses
returns-then-not-uses g c =
    let checks = (lists_of (λ b. (goal.Format-dyn g b).admits b.1) (λ b. (goal.MediaTypeCheck-dyn g b).accepts b.1)
    (λ b. (goal.ContentCodec-dyn g b).is_encoding b.1) (λ b. (goal.ContentCodec-dyn g b).decoding b.1) c.args.checks.now) in (
      (λ no. absurd (cc)),
      (λ u.
          let part = in_use_at g.E.RegexEngine.outcome checks c.args.self.now.validators.items c.loop-validator.validator-index c.validator-item.result
          (rw c.deref-validator-items.ensures.value at c.loop-validator-test.true)
          (rw c.deref-validator-items.ensures.value at c.validator-item.is) u in
          let yes = c.uses.ensures.1 part in
          cc),
    )

pub loop-validator-preserved : goal.loop-validator-preserved
loop-validator-preserved g c =
    let checks = (lists_of (λ b. (goal.Format-dyn g b).admits b.1) (λ b. (goal.MediaTypeCheck-dyn g b).accepts b.1)
    (λ b. (goal.ContentCodec-dyn g b).is_encoding b.1) (λ b. (goal.ContentCodec-dyn g b).decoding b.1) c.args.checks.now) in
    let yes : IsTrue c.uses.result = search rules in
    let more = demands_more g.E.RegexEngine.outcome c.args.self.now.validators.items c.loop-validator.validator-index c.validator-item.result
    (rw c.deref-validator-items.ensures.value at c.loop-validator-test.true)
    (rw c.deref-validator-items.ensures.value at c.validator-item.is) in
    rw more (use_append checks _ _ c.loop-validator.invariant (c.uses.ensures.0 yes))
