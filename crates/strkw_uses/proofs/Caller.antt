-- What a caller knows who hands `EcmaPatterns` in, sets nothing and registers nothing.
use Rattle.std.proofs.Common.{◌≡◌, ℕ, List, [], ◌++◌, Some, None, refl, sym, ap, ◌∙◌, subst}
use Rattle.std.specs.Str.{chars}
use Rattle.serde_json.specs.Data.{Members}
use Rattle.strkw_report.specs.declared.draft.Draft.{Draft}
use Rattle.strkw_report.specs.declared.draft.Draft.TheVariants.{Draft7}
use Rattle.strkw_report.specs.declared.error.Site.{Site}
use Rattle.strkw_report.specs.Kinds.{Report}
use Rattle.strkw_pattern.specs.Literal.{IsLiteral}
use Rattle.strkw_pattern.specs.declared.engine.Outcome.{Outcome}
use Rattle.strkw_keywords.specs.Meanings.{Lists, no_lists}
use Rattle.strkw_keywords.specs.Places.{Place}
use Rattle.strkw_keywords.specs.Errors.{NodeReports, Appends}
use Rattle.strkw_keywords.specs.Object.{Settings, default_options, Errors}
use Rattle.strkw_object.specs.declared.strings.StringKeywords.{StringKeywords}
use Rattle.strkw_object.specs.Compiled.{keywords_assertions, IsCompiledFrom}
use Rattle.strkw_report.specs.Standings.{root_site}
use Rattle.strkw_regex_grammar.specs.Regex.{Disjunction}
use Rattle.strkw_ecma.specs.Laws.{IsPattern}
use Rattle.strkw_regex_reader.specs.machine.Taken.{takes_pattern}
use Rattle.strkw_ecma.specs.machine.Outcomes.{pattern_outcome}
use Rattle.strkw_uses.specs.Patterns.{pattern_alone, root_place, settings_with_patterns, AreErrors, SaysItsPattern}

-- this is what nothing is set in
pub record IsPlain (s : Settings) : Type 0 where
  pub draft : s.draft ≡ Draft7
  pub schema : s.place.schema ≡ []
  pub prefix : s.place.prefix ≡ None
  pub options : s.options ≡ default_options
  pub lists : s.lists ≡ no_lists
  pub takes : s.takes ≡ takes_pattern
  pub outcome : s.outcome ≡ pattern_outcome

-- settings in which nothing is set are those of draft 7 at the root, with nothing registered
plain_is : (s : Settings) → IsPlain s → s ≡ settings_with_patterns Draft7 root_place no_lists
plain_is s is =
    let whole : s ≡ record {
      draft = s.draft;
      place = record { schema = s.place.schema; prefix = s.place.prefix };
      options = s.options;
      lists = s.lists;
      takes = s.takes;
      outcome = s.outcome;
    } = refl in
    whole ∙ rw (is.draft, is.schema, is.prefix, is.options, is.lists, is.takes, is.outcome)

-- such a caller is told of one error exactly where the pattern is not found in the text
pub errors_are : {E : Type 0} (outcome : E → List ℕ → Outcome)
    → ((draft : Draft) (place : Place) (lists : Lists) (p : List ℕ) → (IsLiteral (chars p) → ⊥) → SaysItsPattern draft place lists p)
    → (s : Settings) (ms : Members) (k : StringKeywords E) (lists : Lists) (site : Site) (text : List ℕ) (old new : List Report)
    → IsPlain s → IsCompiledFrom outcome s ms k → lists ≡ no_lists → site.evaluation ≡ [] → site.instance ≡ [] → old ≡ []
    → Appends (NodeReports (keywords_assertions outcome k) lists site (Some text)) old new
    → (p : List ℕ) (d : Disjunction) → ms ≡ pattern_alone p → (IsLiteral (chars p) → ⊥) → IsPattern (chars p) d → AreErrors root_place root_site p d text new
errors_are outcome says s ms k lists site text old new plain from none evaluation instance empty a p d alone other is =
    let here : Errors s ms lists site (Some text) a.added =
    (from.entries, from.are_entries, subst (λ l. NodeReports l lists site (Some text) a.added) from.asserts a.reported) in
    let stands : record { evaluation = site.evaluation; instance = site.instance } ≡ root_site = rw (evaluation, instance) in
    let same : Errors (settings_with_patterns Draft7 root_place no_lists) (pattern_alone p) no_lists root_site (Some text) a.added =
    subst (λ t. Errors t (pattern_alone p) no_lists root_site (Some text) a.added) (plain_is s plain)
    (subst (λ m. Errors s m no_lists root_site (Some text) a.added) alone
    (subst (λ l. Errors s ms l root_site (Some text) a.added) none
    (subst (λ x. Errors s ms lists x (Some text) a.added) stands here))) in
    let are = ((says Draft7 root_place no_lists p other).errors d is root_site text a.added).0 same in
    subst (AreErrors root_place root_site p d text) (sym (a.grown ∙ ap (λ l. l ++ a.added) empty)) are
