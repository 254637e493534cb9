-- What an object with the one keyword `pattern` comes to.
use Rattle.std.proofs.Common.{◌≡◌, ◌⊎◌, inl, inr, ◌↔◌, ℕ, List, [], ◌∷◌, ◌++◌, Bool, true, false, Some, None, IsTrue, refl, sym, ap, ◌∙◌, subst}
use Rattle.std.specs.Str.{chars}
use Rattle.serde_json.specs.Data.{Members}
use Rattle.strkw_report.specs.declared.draft.Draft.{Draft}
use Rattle.strkw_report.specs.declared.error.Site.{Site}
use Rattle.strkw_report.specs.Kinds.{Report, report_at}
use Rattle.strkw_report.specs.Kinds as kind
use Rattle.strkw_pattern.specs.Literal.{IsLiteral}
use Rattle.strkw_pattern.specs.declared.engine.Outcome.{Outcome}
use Rattle.strkw_pattern.specs.declared.engine.Outcome.TheVariants.{Match, NoMatch}
use Rattle.strkw_keywords.specs.declared.keyword.Keyword.TheVariants.{ContentMediaType, ContentEncoding, ContentSchema, Format, MinLength, MaxLength, Pattern}
use Rattle.strkw_keywords.specs.Keywords.{keyword_name}
use Rattle.strkw_keywords.specs.Meanings.{Lists}
use Rattle.strkw_keywords.specs.Places.{Place, standing}
use Rattle.strkw_keywords.specs.Demands.{found_by_outcome}
use Rattle.strkw_keywords.specs.Errors.{reports_of, NodeReports}
use Rattle.strkw_keywords.specs.Object.{Settings, Entry, nothing, engine_entry, Keyed, keywords, AreEntriesOf, AreEntries, all_assertions, refusal, Errors}
use Rattle.strkw_keywords.specs.Object.{FirstRefusal}
use Rattle.strkw_regex_grammar.specs.Regex.{Disjunction}
use Rattle.strkw_regex_reader.specs.Patterns.{pattern}
use Rattle.strkw_regex_core.specs.Meaning.{Found}
use Rattle.strkw_ecma.specs.Laws.{IsPattern, IsExact}
use Rattle.strkw_regex_reader.specs.machine.Taken.{takes_pattern}
use Rattle.strkw_ecma.specs.machine.Outcomes.{pattern_outcome}
use Rattle.strkw_uses.specs.Patterns.{pattern_alone, settings_with_patterns, AreErrors, SaysItsPattern}

-- the entries of the object: that of the pattern alone is something
abbrev entries_with : Entry → List Keyed
entries_with e =
    record { keyword = ContentMediaType; entry = nothing } ∷ record { keyword = ContentEncoding; entry = nothing }
    ∷ record { keyword = ContentSchema; entry = nothing } ∷ record { keyword = Format; entry = nothing }
    ∷ record { keyword = MinLength; entry = nothing } ∷ record { keyword = MaxLength; entry = nothing }
    ∷ record { keyword = Pattern; entry = e } ∷ []

module _ (exact : (source : List ℕ) → IsExact source)
    (once : (s : Settings) (ms : Members) (a b : List Keyed) → AreEntries s ms a → AreEntries s ms b → a ≡ b)
    (draft : Draft) (place : Place) (lists : Lists) (p : List ℕ) (other : IsLiteral (chars p) → ⊥) where
  -- what the object is compiled under
  abbrev settings : Settings
  settings = settings_with_patterns draft place lists

  -- its entries, by whether the pattern is taken
  abbrev entries : Bool → List Keyed
  entries taken = entries_with (engine_entry settings p taken)

  -- they are the entries of the object, keyword by keyword
  in_order : (taken : Bool) → takes_pattern (chars p) ≡ taken → AreEntriesOf settings (pattern_alone p) keywords (entries taken)
  in_order taken e = (
    nothing,
    _,
    refl,
    refl,
    (
      nothing,
      _,
      refl,
      refl,
      (
        nothing,
        _,
        refl,
        refl,
        (
          nothing,
          _,
          refl,
          refl,
          (
            nothing,
            _,
            refl,
            refl,
            (
              nothing,
              _,
              refl,
              refl,
              (engine_entry settings p taken, [], inr (other, ap (engine_entry settings p) (sym e)), refl, refl),
            ),
          ),
        ),
      ),
    ),
  )

  -- so they are the entries of the object
  are_entries : (taken : Bool) → takes_pattern (chars p) ≡ taken → AreEntries settings (pattern_alone p) (entries taken)
  are_entries taken e = record { in_order = in_order taken e }

  -- where none of them is refused, the pattern is taken
  not_refused : (taken : Bool) → takes_pattern (chars p) ≡ taken → refusal place (entries taken) ≡ None → IsTrue (takes_pattern (chars p))
  not_refused true e h = e
  not_refused false e h = absurd (cc)

  -- the object is compiled exactly where `p` is a pattern
  compiles : FirstRefusal settings (pattern_alone p) None ↔ ((d : Disjunction) × IsPattern (chars p) d)
  compiles = (
    (λ (es, are, good).
        (exact (chars p)).derived (not_refused _ refl
        (ap (refusal place) (once settings (pattern_alone p) _ es (are_entries _ refl) are) ∙ good))),
    (λ (d, is). (entries true, are_entries true ((exact (chars p)).taken d is), refl)),
  )

  module _ (d : Disjunction) (is : IsPattern (chars p) d) (site : Site) (text : List ℕ) (errors : List Report) where
    -- what the pattern comes to in the text
    abbrev outcome : Outcome
    outcome = pattern_outcome (chars p) (chars text)

    -- it is a match exactly where the pattern is found in the text
    meant : (outcome ≡ Match) ↔ Found (pattern d) (chars text)
    meant = (exact (chars p)).meant d is (chars text)

    -- the entries of the object are those of a pattern that is taken
    are : AreEntries settings (pattern_alone p) (entries true)
    are = are_entries true ((exact (chars p)).taken d is)

    -- it is not both a match and none
    no_both : outcome ≡ Match → outcome ≡ NoMatch → ⊥
    no_both h k = absurd (cc)

    -- what the entries report is an error exactly where the pattern is not found
    by_outcome : (outcome ≡ Match) ⊎ (outcome ≡ NoMatch) → NodeReports (all_assertions place (entries true)) lists site (Some text) errors
        → AreErrors place site p d text errors
    by_outcome (inl m) (found, rest, h, joined, none) =
        inl (meant.0 m, joined ∙ ap (λ f. reports_of (standing place site) text f ++ rest) (h ∙ ap (found_by_outcome p) m) ∙ none)
    by_outcome (inr m) (found, rest, h, joined, none) =
        inr (
          (λ f. no_both (meant.1 f) m),
          joined ∙ ap (λ f. reports_of (standing place site) text f ++ rest) (h ∙ ap (found_by_outcome p) m)
              ∙ ap (λ l. report_at (standing place site) (keyword_name Pattern) (kind.pattern p) text ∷ l) none,
        )

    -- and back
    said : (outcome ≡ Match) ⊎ (outcome ≡ NoMatch) → AreErrors place site p d text errors → Errors settings (pattern_alone p) lists site (Some text) errors
    said o (inl (f, none)) = (entries true, are, (None, [], sym (ap (found_by_outcome p) (meant.1 f)), none, refl))
    said (inl m) (inr (missed, one)) = absurd (missed (meant.0 m))
    said (inr m) (inr (missed, one)) = (entries true, are, (_, [], sym (ap (found_by_outcome p) m), one, refl))

    -- so the errors of the object are exactly those
    errors_are : Errors settings (pattern_alone p) lists site (Some text) errors ↔ AreErrors place site p d text errors
    errors_are = (
      (λ (es, of, reports). by_outcome ((exact (chars p)).decided (chars text))
          (subst (λ l. NodeReports (all_assertions place l) lists site (Some text) errors) (once settings (pattern_alone p) es (entries true) of are) reports)),
      said ((exact (chars p)).decided (chars text)),
    )

  -- the object is refused unless `p` is a pattern, and then its errors are those
  pub says : SaysItsPattern draft place lists p
  says = record { compiled = compiles; errors = errors_are }
