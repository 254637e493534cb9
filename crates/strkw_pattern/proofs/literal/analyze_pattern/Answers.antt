use Rattle.std.proofs.Common.{subst}
use Rattle.std.specs.Prelude.{IfOk, MatchOption}
use Rattle.strkw_pattern.specs.Literal.{IsLiteral}
use Rattle.strkw_pattern.specs.Analysis.{IsAnalysis}
use Rattle.strkw_pattern.proofs.Texts.{analysis-chars}
use Rattle.strkw_pattern.proofs.literal.analyze_pattern.Goals as goal

pub returns : goal.returns
returns c =
    analysis-chars c.args.pattern.now c.utf8.pattern c.analyze.result
    (subst (λ bs. IfOk c.analyze.result (λ o. MatchOption o (IsLiteral bs → ⊥) (IsAnalysis bs))) c.as_bytes.ensures.value c.analyze.ensures)
