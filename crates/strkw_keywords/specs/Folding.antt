-- The interval of a schema object: the lengths that `minLength`, `maxLength` and a built-in format
-- leave to a text (JSON Schema Validation 2020-12, sections 6.3.1, 6.3.2 and 7.3). Where there is
-- none, the object is false of every text.
use Rattle.std.specs.Prelude.{◌↔◌, ◌≤◌, ℕ, List, [], Option, Some, None, IfSome, option_and_then}
use Rattle.std.specs.Prelude.{if◌then◌else◌}
use Rattle.serde_json.specs.Data.{Members}
use Rattle.serde_json.specs.Find.{as_str}
use Rattle.strkw_report.specs.declared.error.Site.{Site}
use Rattle.strkw_keywords.specs.declared.keyword.Keyword.{Keyword}
use Rattle.strkw_keywords.specs.declared.keyword.Keyword.TheVariants.{Format, MinLength, MaxLength}
use Rattle.strkw_formats.specs.declared.builtin.BuiltinFormat.{BuiltinFormat}
use Rattle.strkw_keywords.specs.declared.options.Options.{Options}
use Rattle.strkw_keywords.specs.Meanings.{Lists, Choice}
use Rattle.strkw_formats.specs.FormatLaws.{IsInside}
use Rattle.strkw_keywords.specs.Object.{Settings, Keyed, AreEntries, Errors, all_demands, value_at}
use Rattle.strkw_keywords.specs.Object.{as_limit, checks_formats, known_format}
use Rattle.strkw_keywords.specs.Lengths.{window_at, interval, AreLimits, IsTextOfLength}

-- the limit at a keyword, where there is one and the keyword is not overridden
abbrev pub limit_at : Options → Keyword → Members → Option ℕ
limit_at options keyword ms = option_and_then as_limit (value_at options keyword ms)

-- what checks the texts at `format`, where formats are checked and the name is known
abbrev pub format_at : Settings → Members → Option (Choice BuiltinFormat)
format_at s ms =
    if checks_formats s.options s.draft then option_and_then (known_format s)
    (option_and_then as_str (value_at s.options Format ms)) else None

-- the length is in the interval of a schema object
pub record IsInInterval (s : Settings) (ms : Members) (n : ℕ) : Type 0 where
  pub long_enough : IfSome (limit_at s.options MinLength ms) (λ least. least ≤ n)
  pub short_enough : IfSome (limit_at s.options MaxLength ms) (λ greatest. n ≤ greatest)
  pub in_window : IfSome (option_and_then window_at (format_at s ms)) (λ w. IsInside w n)

-- the interval is empty
abbrev pub FoldsToFalse : Settings → Members → Type 0
FoldsToFalse s ms = (n : ℕ) → IsInInterval s ms n → ⊥

-- no text is without errors by a schema object, whatever the lists and the place of the instance
abbrev pub RefusesTexts : Settings → Members → Type 0
RefusesTexts s ms = (lists : Lists) (site : Site) (text : List ℕ)
    → Errors s ms lists site (Some text) [] → ⊥

-- two schema objects accept the same nodes
abbrev pub AcceptAlike : Settings → Members → Settings → Members → Type 0
AcceptAlike s ms t others = (lists : Lists) (site : Site) (node : Option (List ℕ))
    → Errors s ms lists site node [] ↔ Errors t others lists site node []

-- only the lengths of texts can make errors: there is no checked format, no pattern and no content
-- check
abbrev pub OnlyLengthsErr : Settings → Members → Type 0
OnlyLengthsErr s ms = (es : List Keyed) × AreEntries s ms es × AreLimits (all_demands es)

-- a text of a length in the interval that has no errors
pub record IsAccepted (s : Settings) (ms : Members) (lists : Lists) (site : Site) (n : ℕ)
    (text : List ℕ) : Type 0 where
  pub size : IsTextOfLength n text
  pub inside : IsInInterval s ms n
  pub accepted : Errors s ms lists site (Some text) []

-- ---- what is so of them

-- the interval of a schema object is what its entries, by their demands, leave
abbrev pub IntervalIsLeft : Type 0
IntervalIsLeft = (s : Settings) (ms : Members) (es : List Keyed) (n : ℕ) → AreEntries s ms es
    → IsInside (interval (all_demands es)) n ↔ IsInInterval s ms n

-- a schema object that folds to false refuses every text
abbrev pub FoldedRefuseTexts : Type 0
FoldedRefuseTexts = (s : Settings) (ms : Members) → FoldsToFalse s ms → RefusesTexts s ms

-- another accepts some text, where only lengths can make errors
abbrev pub OthersAcceptSomeText : Type 0
OthersAcceptSomeText = (s : Settings) (ms : Members) (lists : Lists) (site : Site)
    → OnlyLengthsErr s ms → (FoldsToFalse s ms → ⊥) → (n : ℕ) × (text : List ℕ)
    × IsAccepted s ms lists site n text
