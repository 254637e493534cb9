use Rattle.std.proofs.Common.{[], take}
use Rattle.strkw_report.specs.declared.error.Site.{Site}
use Rattle.strkw_keywords.specs.Handed.{lists_of}
use Rattle.strkw_keywords.specs.Errors.{NodeReports}
use Rattle.strkw_keywords.specs.Validators.{assertions_in}
use Rattle.strkw_object.proofs.strings.StringKeywords.is_valid.Given as goal

abbrev pub invariant-loop-validator : goal.invariant-loop-validator
invariant-loop-validator g l =
    (site : Site) → NodeReports (assertions_in g.E.RegexEngine.outcome (take l.validator-index l.self.validators.items))
    (lists_of (λ b. (goal.Format-dyn g b).admits b.1) (λ b. (goal.MediaTypeCheck-dyn g b).accepts b.1) (λ b. (goal.ContentCodec-dyn g b).is_encoding b.1)
    (λ b. (goal.ContentCodec-dyn g b).decoding b.1) l.checks) site (g.N.Node.text l.node) []
