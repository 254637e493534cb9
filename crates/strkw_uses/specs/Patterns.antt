-- What a schema object with the one keyword `pattern` says of texts, where the patterns are those
-- of ECMA-262.
use Rattle.std.specs.Prelude.{◌≡◌, ◌↔◌, ◌⊎◌, ℕ, List, [], ◌∷◌, Some, None}
use Rattle.std.specs.Str.{chars}
use Rattle.serde_json.specs.Data.{string, Members, no_members, member}
use Rattle.strkw_report.specs.declared.draft.Draft.{Draft}
use Rattle.strkw_report.specs.declared.error.Site.{Site}
use Rattle.strkw_report.specs.Kinds.{Report, report_at}
use Rattle.strkw_report.specs.Kinds as kind
use Rattle.strkw_keywords.specs.declared.keyword.Keyword.TheVariants.{Pattern}
use Rattle.strkw_keywords.specs.Keywords.{keyword_name}
use Rattle.strkw_keywords.specs.Meanings.{Lists}
use Rattle.strkw_keywords.specs.Places.{Place, standing}
use Rattle.strkw_keywords.specs.Object.{Settings, default_options, Errors, FirstRefusal}
use Rattle.strkw_regex_grammar.specs.Regex.{Disjunction}
use Rattle.strkw_regex_reader.specs.Patterns.{pattern}
use Rattle.strkw_regex_core.specs.Meaning.{Found}
use Rattle.strkw_ecma.specs.Laws.{IsPattern}
use Rattle.strkw_regex_reader.specs.machine.Taken.{takes_pattern}
use Rattle.strkw_ecma.specs.machine.Outcomes.{pattern_outcome}

-- the members of `{"pattern": p}`
abbrev pub pattern_alone : List ℕ → Members
pattern_alone p = member (keyword_name Pattern) (string p) no_members

-- where an object stands that is a whole document
abbrev pub root_place : Place
root_place = record { schema = []; prefix = None }

-- what an object is compiled under, where `EcmaPatterns` is handed in and no option is set
abbrev pub settings_with_patterns : Draft → Place → Lists → Settings
settings_with_patterns draft place lists = record {
  draft = draft;
  place = place;
  options = default_options;
  lists = lists;
  takes = takes_pattern;
  outcome = pattern_outcome;
}

-- there is no error where the pattern is found in the text, and one where it is not
abbrev pub AreErrors : Place → Site → List ℕ → Disjunction → List ℕ → List Report → Type 0
AreErrors place site p d text errors =
    (Found (pattern d) (chars text) × (errors ≡ []))
    ⊎ ((Found (pattern d) (chars text) → ⊥)
    × (errors ≡ report_at (standing place site) (keyword_name Pattern) (kind.pattern p) text
    ∷ []))

-- the object is refused unless p is a pattern, and then its errors are those
pub record SaysItsPattern (draft : Draft) (place : Place) (lists : Lists) (p : List ℕ) : Type 0
  where
    pub compiled : FirstRefusal (settings_with_patterns draft place lists) (pattern_alone p) None
        ↔ ((d : Disjunction) × IsPattern (chars p) d)
    pub errors : (d : Disjunction) → IsPattern (chars p) d
        → (site : Site) (text : List ℕ) (errors : List Report)
        → Errors (settings_with_patterns draft place lists) (pattern_alone p) lists site (Some text)
        errors ↔ AreErrors place site p d text errors
