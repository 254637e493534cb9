-- What an answer by a compiled schema object tells, whatever the text is.
use Rattle.std.specs.Prelude.{◌≡◌, ◌≢◌, ◌++◌, ℕ, List, Result, Ok, Err, codes, false}
use Rattle.strkw_report.specs.Refusals.{out_of_memory, prints_float, reason_of, refusal_of}
use Rattle.strkw_report.specs.declared.refusal.CompileError.{CompileError}
use Rattle.strkw_pattern.specs.Matcher.{literal_outcome}
use Rattle.strkw_pattern.specs.declared.matcher.LiteralMatcher.{LiteralMatcher}
use Rattle.strkw_keywords.specs.Demands.{IsInUse}
use Rattle.strkw_keywords.specs.Meanings.{no_lists}
use Rattle.strkw_object.specs.declared.strings.StringKeywords.{StringKeywords}
use Rattle.strkw_object.specs.Compiled.{keywords_demands, keywords_remarks}
use Rattle.strkw_object.specs.Printable.{ArePrintable}
use Rattle.strkw_print.specs.Printed.{note_lines, refused_line}

-- it can be asked of any instance, and be printed
abbrev pub CanAnswer : Result (StringKeywords LiteralMatcher) CompileError → Type 0
CanAnswer (Ok k) = IsInUse (keywords_demands literal_outcome k) no_lists
    × ArePrintable (keywords_remarks k)
CanAnswer (Err e) = prints_float (reason_of e.kind) ≡ false

-- What each answer by it tells behind the errors of a text: the notes, and the end. A refusal,
-- which then is not out of memory, is the whole answer.
abbrev pub IsTold : Result (StringKeywords LiteralMatcher) CompileError → List ℕ → Type 0
IsTold (Ok k) told = told ≡ note_lines (keywords_remarks k) ++ codes "end\n"
IsTold (Err e) told = (reason_of e.kind ≢ out_of_memory)
    × (told ≡ refused_line (refusal_of e) ++ codes "end\n")
