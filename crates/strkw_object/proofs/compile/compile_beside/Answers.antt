use Rattle.std.proofs.Common.{rules, get_or, arith}
use Rattle.std.proofs.lemmas.Result.{err_from_is_err_and}
use Rattle.std.proofs.lemmas.List.{take_all}
use Rattle.strkw_keywords.specs.Handed.{settings_of}
use Rattle.strkw_keywords.specs.Object.{keywords}
use Rattle.strkw_keywords.specs.declared.keyword.Keyword.TheVariants.{ContentMediaType}
use Rattle.strkw_object.proofs.Whole.{beside_absent, none_beside, asked_schema, asked_other, beside_still, beside_more, beside_refused, beside_compiled}
use Rattle.strkw_object.proofs.compile.compile_beside.Goals as goal
use Rattle.strkw_object.proofs.compile.compile_beside.Goals.{in-ContentSchema, in_default+else-is_none}

pub loop-keyword-init : goal.loop-keyword-init
loop-keyword-init g c =
    let s = (settings_of g.B.EngineBuilder.takes g.B.EngineBuilder.outcome (λ b. (goal.Format-dyn g b).admits b.1)
    (λ b. (goal.MediaTypeCheck-dyn g b).accepts b.1) (λ b. (goal.ContentCodec-dyn g b).is_encoding b.1) (λ b. (goal.ContentCodec-dyn g b).decoding b.1)
    c.args.ctx.now) in
    let values = c.args.values.now in
    none_beside g.B.Engine.RegexEngine.outcome s values c.args.schema c.new-validators.result.items c.new-validators.ensures.items

pub loop-keyword-preserved-then-is_none : goal.loop-keyword-preserved-then-is_none
loop-keyword-preserved-then-is_none g c =
    let s = (settings_of g.B.EngineBuilder.takes g.B.EngineBuilder.outcome (λ b. (goal.Format-dyn g b).admits b.1)
    (λ b. (goal.MediaTypeCheck-dyn g b).accepts b.1) (λ b. (goal.ContentCodec-dyn g b).is_encoding b.1) (λ b. (goal.ContentCodec-dyn g b).decoding b.1)
    c.args.ctx.now) in
    let k = get_or keywords c.loop-keyword.keyword-index ContentMediaType in
    beside_absent g.B.Engine.RegexEngine.outcome s c.args.values.now c.args.schema c.loop-keyword.keyword-index k c.loop-keyword.schema
    c.loop-keyword.validators.items c.loop-keyword-test.true (search rules) c.in_default.not-ContentSchema (grind arith) c.loop-keyword.invariant

pub loop-keyword-preserved-in_default-compiled : goal.loop-keyword-preserved-in_default-compiled
loop-keyword-preserved-in_default-compiled g c =
    let s = (settings_of g.B.EngineBuilder.takes g.B.EngineBuilder.outcome (λ b. (goal.Format-dyn g b).admits b.1)
    (λ b. (goal.MediaTypeCheck-dyn g b).accepts b.1) (λ b. (goal.ContentCodec-dyn g b).is_encoding b.1) (λ b. (goal.ContentCodec-dyn g b).decoding b.1)
    c.args.ctx.now) in
    let values = c.args.values.now in
    beside_still g.B.Engine.RegexEngine.outcome s values c.args.schema c.loop-keyword.keyword-index _ c.loop-keyword.schema c.match-keyword.schema
    c.match-keyword.compiled c.loop-keyword.validators.items c.loop-keyword-test.true (search rules) c.loop-keyword.invariant (elim c.match-keyword.branch [
      | in-ContentSchema w ↦ asked_schema g.B.Engine.RegexEngine.outcome s values c.args.schema c.loop-keyword.keyword-index _ c.loop-keyword.schema
          c.match-keyword.compiled c.match-keyword.schema c.loop-keyword.validators.items c.loop-keyword-test.true (search rules) w.in-ContentSchema.is
          (search rules) c.loop-keyword.invariant
      | in_default+else-is_none w ↦ rw (w.schema-is, w.compiled-is) (asked_other g.B.Engine.RegexEngine.outcome s values c.args.schema c.loop-keyword.keyword-index _
          c.loop-keyword.schema w.compile_among-compiled.result c.loop-keyword.validators.items w.in_default.not-ContentSchema w.compile_among-compiled.ensures
          c.loop-keyword.invariant)
    ]) c.in_default-compiled.is

pub returns-in_err-validator-clause-refused : goal.returns-in_err-validator-clause-refused
returns-in_err-validator-clause-refused g c =
    let s = (settings_of g.B.EngineBuilder.takes g.B.EngineBuilder.outcome (λ b. (goal.Format-dyn g b).admits b.1)
    (λ b. (goal.MediaTypeCheck-dyn g b).accepts b.1) (λ b. (goal.ContentCodec-dyn g b).is_encoding b.1) (λ b. (goal.ContentCodec-dyn g b).decoding b.1)
    c.args.ctx.now) in
    let values = c.args.values.now in
    let (e, is, same) = err_from_is_err_and c.from_residual.result c.from_residual.ensures.1 in
    λ ms are schema. rw (is, same) (beside_refused g.B.Engine.RegexEngine.outcome s values c.args.schema c.loop-keyword.keyword-index _
    c.loop-keyword.schema c.match-keyword.schema c.match-keyword.compiled c.loop-keyword.validators.items _ c.loop-keyword-test.true (search rules)
    c.loop-keyword.invariant (elim c.match-keyword.branch [
      | in-ContentSchema w ↦ asked_schema g.B.Engine.RegexEngine.outcome s values c.args.schema c.loop-keyword.keyword-index _ c.loop-keyword.schema
          c.match-keyword.compiled c.match-keyword.schema c.loop-keyword.validators.items c.loop-keyword-test.true (search rules) w.in-ContentSchema.is
          (search rules) c.loop-keyword.invariant
      | in_default+else-is_none w ↦ rw (w.schema-is, w.compiled-is) (asked_other g.B.Engine.RegexEngine.outcome s values c.args.schema c.loop-keyword.keyword-index _
          c.loop-keyword.schema w.compile_among-compiled.result c.loop-keyword.validators.items w.in_default.not-ContentSchema w.compile_among-compiled.ensures
          c.loop-keyword.invariant)
    ]) (search rules) ms are schema)

pub loop-keyword-preserved : goal.loop-keyword-preserved
loop-keyword-preserved g c =
    let s = (settings_of g.B.EngineBuilder.takes g.B.EngineBuilder.outcome (λ b. (goal.Format-dyn g b).admits b.1)
    (λ b. (goal.MediaTypeCheck-dyn g b).accepts b.1) (λ b. (goal.ContentCodec-dyn g b).is_encoding b.1) (λ b. (goal.ContentCodec-dyn g b).decoding b.1)
    c.args.ctx.now) in
    let values = c.args.values.now in
    rw (c.push_reserved.ensures.items, c.reserve.ensures.items)
    (beside_more g.B.Engine.RegexEngine.outcome s values c.args.schema c.loop-keyword.keyword-index _ c.loop-keyword.schema c.match-keyword.schema
    c.match-keyword.compiled c.loop-keyword.validators.items c.in_ok-validator.validator c.loop-keyword-test.true (search rules) c.loop-keyword.invariant
    (elim c.match-keyword.branch [
      | in-ContentSchema w ↦ asked_schema g.B.Engine.RegexEngine.outcome s values c.args.schema c.loop-keyword.keyword-index _ c.loop-keyword.schema
          c.match-keyword.compiled c.match-keyword.schema c.loop-keyword.validators.items c.loop-keyword-test.true (search rules) w.in-ContentSchema.is
          (search rules) c.loop-keyword.invariant
      | in_default+else-is_none w ↦ rw (w.schema-is, w.compiled-is) (asked_other g.B.Engine.RegexEngine.outcome s values c.args.schema c.loop-keyword.keyword-index _
          c.loop-keyword.schema w.compile_among-compiled.result c.loop-keyword.validators.items w.in_default.not-ContentSchema w.compile_among-compiled.ensures
          c.loop-keyword.invariant)
    ]) (search rules))

pub returns-clause-compiled : goal.returns-clause-compiled
returns-clause-compiled g c =
    let s = (settings_of g.B.EngineBuilder.takes g.B.EngineBuilder.outcome (λ b. (goal.Format-dyn g b).admits b.1)
    (λ b. (goal.MediaTypeCheck-dyn g b).accepts b.1) (λ b. (goal.ContentCodec-dyn g b).is_encoding b.1) (λ b. (goal.ContentCodec-dyn g b).decoding b.1)
    c.args.ctx.now) in
    let values = c.args.values.now in
    let whole = take_all c.loop-keyword.keyword-index keywords c.loop-keyword-test.false in
    λ ms are schema. beside_compiled g.B.Engine.RegexEngine.outcome s values c.args.schema c.loop-keyword.keyword-index _
    (record { validators = c.loop-keyword.validators }) whole c.loop-keyword.invariant ms are
    schema
