-- It cannot be that an instance has no list of errors.
use Rattle.std.proofs.Common.{◌≡◌, ◌↔◌, ℕ, zero, suc, ◌≤◌, List, [], ◌∷◌, ◌++◌, length, refl, Bool, true, false, Some, None, Option, IsTrue, arith}
use Rattle.std.proofs.lemmas.Bool.{false≢true}
use Rattle.std.specs.Prelude.{MatchOption, slice_get}
use Rattle.std.specs.List.{AllByRecursion, flat_map}
use Rattle.serde_json.specs.Data.{Data}
use Rattle.serde_json.specs.Find.{as_str}
use Rattle.strkw_report.specs.declared.error.Site.{Site}
use Rattle.strkw_keywords.specs.Laws.{ReportsAreThere}
use Rattle.strkw_keywords.specs.Meanings.{Lists}
use Rattle.neldrafi_schema.specs.Errors.{Error}
use Rattle.neldrafi_schema.specs.Schemas.{Keyword, rule, string_keyword, malformed, Body, always, never, keywords, neither, Schema}
use Rattle.neldrafi_schema.specs.Meaning.{AreVerdicts, Below, EachReports, KeywordReports, KeywordsReport, SchemaReports, Reports, site_of}
use Rattle.neldrafi_schema.specs.Rules.{Target, applied, on_each, part_of, tested}
use Rattle.neldrafi_schema.specs.machine.Ready.{steps_for}
use Rattle.neldrafi_schema.specs.machine.Sound.{AreSound, IsSoundBody}
use Rattle.neldrafi_schema.specs.Refusals.{ends, schema_ends}
use Rattle.neldrafi_schema.proofs.Fitting.{Fits, IsBodyFine, IsKeywordFine, body_fits}
use Rattle.neldrafi_schema.proofs.Within.{Hold, both_hold}
use Rattle.neldrafi_schema.proofs.Spanning.{unevaluated_fine, unevaluated_is}
use Rattle.neldrafi_schema.specs.Schemas.{Header}

-- it cannot be that there is none
abbrev pub ThereIs : (List Error → Type 0) → Type 0
ThereIs P = ((es : List Error) → P es → ⊥) → ⊥

here : (P : List Error → Type 0) (es : List Error) → P es → ThereIs P
here P es p none = none es p

-- a thing holds or does not
decides : (X : Type 0) → ((b : Bool) → (IsTrue b ↔ X) → ⊥) → ⊥
decides X none = none false ((λ t. absurd (false≢true t)), (λ x. absurd (none true ((λ _. x), (λ _. refl)))))

module _ (some : ReportsAreThere) (schemas : List Schema) (lists : Lists) (below : Below) (Fine : ℕ → Data → Type 0) (is : (n : ℕ) (d : Data) (site : Site) → Fine n d → ThereIs (below n d site)) where
  verdicts_are : (site : Site) (word : List ℕ) (ts : List Target) → ((vs : List Bool) → AreVerdicts below site word ts vs → ⊥) → ⊥
  verdicts_are site word [] none = none [] refl
  verdicts_are site word (t ∷ ts) none = decides _ (λ v p. verdicts_are site word ts (λ vs q. none (v ∷ vs) (v, vs, p, q, refl)))

  each_are : (site : Site) (word : List ℕ) (ts : List Target) → Hold Fine ts → ThereIs (EachReports below site word ts)
  each_are site word [] fine none = none [] refl
  each_are site word (t ∷ ts) fine none = is t.schema t.value (site_of site word t) fine.0
      (λ es p. each_are site word ts fine.1 (λ fs q. none (es ++ fs) (es, fs, p, q, refl)))

  keyword_is : (header : Header) (beside : List Keyword) (k : Keyword) (d : Data) (site : Site) → IsKeywordFine Fine d beside k
      → ThereIs (KeywordReports schemas below lists header beside k d site)
  keyword_is header beside (rule word r bs) d site fine none = verdicts_are site word (tested r bs d) (λ vs v.
      unevaluated_is schemas below beside d (part_of r) (λ l c.
      each_are site word (applied beside r bs d vs ++ flat_map (on_each l) bs)
      (both_hold Fine (applied beside r bs d vs) (flat_map (on_each l) bs) (fine.1 vs) (unevaluated_fine schemas below Fine beside d (part_of r) bs l c fine.2))
      (λ es p. none _ (vs, l, es, v, c, p, refl))))
  keyword_is header beside (string_keyword word asserted) d site fine none =
      some asserted lists site (as_str d) (λ rs p. none _ (rs, p, refl))
  keyword_is header beside (malformed path why) d site fine none = fine

  keywords_are : (header : Header) (beside ks : List Keyword) (d : Data) (site : Site) → AllByRecursion (IsKeywordFine Fine d beside) ks
      → ThereIs (KeywordsReport schemas below lists header beside ks d site)
  keywords_are header beside [] d site fine none = none [] refl
  keywords_are header beside (k ∷ ks) d site fine none = keyword_is header beside k d site fine.0
      (λ es p. keywords_are header beside ks d site fine.1 (λ fs q. none (es ++ fs) (es, fs, p, q, refl)))

  pub schema_is : (header : Header) (body : Body) (d : Data) (site : Site) → IsBodyFine Fine d body → ThereIs (SchemaReports schemas below lists header body d site)
  schema_is header always d site fine none = none [] refl
  schema_is header never d site fine none = none _ refl
  schema_is header (keywords ks) d site fine none = keywords_are header ks ks d site fine none
  schema_is header neither d site fine none = fine

module _ (there : ReportsAreThere) (schemas : List Schema) (lists : Lists) (sound : AreSound schemas) where
  module _ (k s : ℕ) (d : Data) (fits : steps_for (length schemas) d (suc s) ≤ suc k)
      (is : (n : ℕ) (d : Data) (site : Site) → Fits schemas sound k n d → ThereIs (Reports schemas lists k n d site)) where
    there_fits : (o : Option Schema) (site : Site) → ((t : Schema) → o ≡ Some t → IsSoundBody (length schemas) t.body) → schema_ends (ends schemas s) o ≡ true
        → ThereIs (λ es. MatchOption o ⊥ (λ t. SchemaReports schemas (Reports schemas lists k) lists t.header t.body d site es))
    there_fits None site good e none = false≢true e
    there_fits (Some t) site good e none =
        schema_is there schemas lists (Reports schemas lists k) (Fits schemas sound k) is t.header t.body d site (body_fits schemas sound k s d fits t.body (good t refl) e) none

  pub reports_are : (k n : ℕ) (d : Data) (site : Site) → Fits schemas sound k n d → ThereIs (Reports schemas lists k n d site)
  unfolding Reports ends
  reports_are k n d site (zero, e, fits) none = false≢true e
  reports_are zero n d site (suc s, e, fits) none = absurd (omega arith)
  reports_are (suc k) n d site (suc s, e, fits) none = there_fits k s d fits (reports_are k) (slice_get schemas n) site (sound.each n) e none
