use Rattle.std.proofs.Common.{Some, take}
use Rattle.strkw_keywords.specs.Handed.{lists_of}
use Rattle.strkw_keywords.specs.Errors.{NodeReports}
use Rattle.strkw_keywords.specs.Validators.{assertions_in}
use Rattle.strkw_report.specs.Standings.{root_site}
use Rattle.strkw_print.proofs.Errors.{AppendsLines}
use Rattle.strkw_print.proofs.lines.push_errors.Given as goal

abbrev pub invariant-loop-validator : goal.invariant-loop-validator
invariant-loop-validator g l =
    AppendsLines (NodeReports (assertions_in g.E.RegexEngine.outcome (take l.validator-index l.validator-items))
    (lists_of (λ b. (goal.Format-dyn g b).admits b.1) (λ b. (goal.MediaTypeCheck-dyn g b).accepts b.1) (λ b. (goal.ContentCodec-dyn g b).is_encoding b.1)
    (λ b. (goal.ContentCodec-dyn g b).decoding b.1) l.checks) root_site (Some l.text)) l.initial.out.items l.out.items
