-- What a text failed at, with no memory or capacity.
use Rattle.strkw_report.specs.Kinds.{Kind, min_length, max_length, pattern}
use Rattle.strkw_report.specs.Kinds.{backtrack_limit_exceeded, regex_engine_failure, format}
use Rattle.strkw_report.specs.Kinds.{content_encoding, content_media_type, from_utf8}
use Rattle.strkw_report.specs.declared.failure.Failure.{Failure}
use Rattle.strkw_report.specs.declared.failure.Failure.TheVariants.{MinLength, MaxLength, Pattern}
use Rattle.strkw_report.specs.declared.failure.Failure.TheVariants.{BacktrackLimitExceeded}
use Rattle.strkw_report.specs.declared.failure.Failure.TheVariants.{RegexEngineFailure, Format}
use Rattle.strkw_report.specs.declared.failure.Failure.TheVariants.{ContentEncoding}
use Rattle.strkw_report.specs.declared.failure.Failure.TheVariants.{ContentMediaType, FromUtf8}

abbrev pub kind_failed : Failure → Kind
kind_failed (MinLength n) = min_length n
kind_failed (MaxLength n) = max_length n
kind_failed (Pattern p) = pattern p.now
kind_failed (BacktrackLimitExceeded p) = backtrack_limit_exceeded p.now
kind_failed (RegexEngineFailure p) = regex_engine_failure p.now
kind_failed (Format f) = format f.now
kind_failed (ContentEncoding m) = content_encoding m.now
kind_failed (ContentMediaType m) = content_media_type m.now
kind_failed FromUtf8 = from_utf8
