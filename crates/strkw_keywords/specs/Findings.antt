-- Findings, as the code keeps them.
use Rattle.std.specs.Prelude.{List, [], ◌∷◌, ◌++◌, Option, Some, None, option_map}
use Rattle.strkw_report.specs.Failures.{kind_failed}
use Rattle.strkw_report.specs.declared.failure.Failure.{Failure}
use Rattle.strkw_report.specs.declared.failure.Failure.TheVariants as failed
use Rattle.strkw_keywords.specs.declared.keyword.Keyword.{Keyword}
use Rattle.strkw_keywords.specs.declared.keyword.Keyword.TheVariants.{ContentMediaType}
use Rattle.strkw_keywords.specs.declared.keyword.Keyword.TheVariants.{ContentEncoding, Format}
use Rattle.strkw_keywords.specs.declared.keyword.Keyword.TheVariants.{MinLength, MaxLength, Pattern}
use Rattle.strkw_keywords.specs.Demands.{Finding, finding_list}
use Rattle.strkw_keywords.specs.declared.findings.Findings.{Findings}

-- the keyword of the error of a text that failed so
abbrev pub keyword_failed : Failure → Keyword
keyword_failed (failed.MinLength n) = MinLength
keyword_failed (failed.MaxLength n) = MaxLength
keyword_failed (failed.Pattern p) = Pattern
keyword_failed (failed.BacktrackLimitExceeded p) = Pattern
keyword_failed (failed.RegexEngineFailure p) = Pattern
keyword_failed (failed.Format f) = Format
keyword_failed (failed.ContentEncoding n) = ContentEncoding
keyword_failed (failed.ContentMediaType n) = ContentMediaType
keyword_failed failed.FromUtf8 = ContentEncoding

abbrev pub finding_of : Failure → Finding
finding_of f = record { keyword = keyword_failed f; kind = kind_failed f }

abbrev pub findings_of : Findings → List Finding
findings_of fs = finding_list (option_map finding_of fs.first)
    ++ finding_list (option_map finding_of fs.second)

-- the first of several findings
abbrev pub first_of : List Finding → Option Finding
first_of [] = None
first_of (f ∷ fs) = Some f
