-- What is written of one text: a line for each error, and then one for each note.
use Rattle.std.specs.Prelude.{◌≡◌, ℕ, List, ◌++◌, Some, None}
use Rattle.serde_json.specs.Data.{Members}
use Rattle.strkw_report.specs.Kinds.{Report}
use Rattle.strkw_report.specs.Standings.{root_site}
use Rattle.strkw_pattern.specs.declared.engine.Outcome.{Outcome}
use Rattle.strkw_keywords.specs.Errors.{NodeReports}
use Rattle.strkw_keywords.specs.Meanings.{Lists}
use Rattle.strkw_keywords.specs.Object.{Settings, Errors, FirstRefusal, Notes}
use Rattle.strkw_keywords.specs.Remarks.{Remark}
use Rattle.strkw_object.specs.declared.strings.StringKeywords.{StringKeywords}
use Rattle.strkw_object.specs.Compiled.{keywords_assertions, keywords_remarks}
use Rattle.strkw_print.specs.Printed.{error_lines, note_lines}
use Rattle.strkw_c.specs.Verdicts.{IsSchema}

abbrev pub lines_of : List Report → List Remark → List ℕ
lines_of errors notes = error_lines errors ++ note_lines notes

-- these lines are those of the errors of a text by a schema object, and of what it notes
abbrev pub AreLines : Settings → Members → List ℕ → List ℕ → Type 0
AreLines s schema text lines = (errors : List Report) × (notes : List Remark)
    × Errors s schema s.lists root_site (Some text) errors × Notes s schema (Some text) notes
    × (lines ≡ lines_of errors notes)

-- the bytes are a schema object, none of its entries is refused, and these are the lines of a text
abbrev pub HasLines : Settings → List ℕ → List ℕ → List ℕ → Type 0
HasLines s bytes text lines = (schema : Members) × IsSchema bytes (Some schema)
    × FirstRefusal s schema None × AreLines s schema text lines

-- these lines are those of a text by a compiled object, by the outcomes of its engines and the
-- checks that are registered
abbrev pub AreLinesOf : {E : Type 0} → (E → List ℕ → Outcome) → StringKeywords E → Lists
    → List ℕ → List ℕ → Type 0
AreLinesOf outcome k lists text lines = (errors : List Report)
    × NodeReports (keywords_assertions outcome k) lists root_site (Some text) errors
    × (lines ≡ lines_of errors (keywords_remarks k))
