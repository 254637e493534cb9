-- On the errors of an instance by a schema object: there is at most one list of them.
use Rattle.std.proofs.Common.{subst}
use Rattle.strkw_coding.specs.Laws.{EncodesOnce}
use Rattle.strkw_keywords.specs.Errors.{NodeReports}
use Rattle.strkw_keywords.specs.Object.{all_assertions}
use Rattle.strkw_keywords.specs.Laws.{ErrorsAreDetermined}
use Rattle.strkw_keywords.proofs.Entries.{AreEntries-unique}
use Rattle.strkw_keywords.proofs.InTurn.{reports_determined}

-- by `EncodesOnce`, a node has one list of errors at most by a schema object
pub errors_determined : EncodesOnce → ErrorsAreDetermined
errors_determined once s ms lists site node rs others (es, are, h) (fs, too, k) =
    let same = subst (λ l. NodeReports (all_assertions s.place l) lists site node others) (AreEntries-unique s ms fs es too are) k in
    reports_determined once (all_assertions s.place es) lists site node rs others h same
