-- More steps change nothing.
use Rattle.std.proofs.Common.{◌≡◌, ◌↔◌, ℕ, zero, suc, ◌≤◌, List, [], ◌∷◌, ◌++◌, length, Bool, true, Some, None, Option, refl, arith}
use Rattle.std.proofs.lemmas.Bool.{false≢true}
use Rattle.std.specs.Prelude.{MatchOption, slice_get}
use Rattle.std.specs.List.{AllByRecursion, flat_map}
use Rattle.serde_json.specs.Data.{Data}
use Rattle.strkw_report.specs.declared.error.Site.{Site}
use Rattle.strkw_keywords.specs.Meanings.{Lists}
use Rattle.neldrafi_schema.specs.Errors.{Error}
use Rattle.neldrafi_schema.specs.Schemas.{Keyword, rule, string_keyword, malformed}
use Rattle.neldrafi_schema.specs.Schemas.{Body, always, never, keywords, neither, Schema}
use Rattle.neldrafi_schema.specs.Rules.{Target, applied, on_each, part_of, tested}
use Rattle.neldrafi_schema.specs.Meaning.{AreVerdicts, Below, BesideEvaluates, EachReports, KeywordReports, KeywordsReport, OneOf, SchemaReports, Reports, root_site, site_of}
use Rattle.neldrafi_schema.specs.Paths.{Segment}
use Rattle.neldrafi_schema.specs.machine.Ready.{steps_for}
use Rattle.neldrafi_schema.specs.machine.Sound.{AreSound, IsSoundBody}
use Rattle.neldrafi_schema.specs.Refusals.{ends, schema_ends}
use Rattle.neldrafi_schema.proofs.Fitting.{Fits, IsBodyFine, IsKeywordFine, body_fits, body_fits_too}
use Rattle.neldrafi_schema.proofs.Spanning.{besides_too, unevaluated_fine, unevaluated_too}
use Rattle.neldrafi_schema.proofs.Within.{Hold, both_hold}
use Rattle.neldrafi_schema.specs.Schemas.{Header}

-- the same is said below, where it is fine
abbrev Alike : (ℕ → Data → Type 0) → Below → Below → Type 0
Alike Fine below other = (n : ℕ) (d : Data) (site : Site) (es : List Error) → Fine n d → below n d site es ↔ other n d site es

turned : (Fine : ℕ → Data → Type 0) (below other : Below) → Alike Fine below other → Alike Fine other below
turned Fine below other same n d site es fine = let s = same n d site es fine in (s.1, s.0)

module _ (schemas : List Schema) (lists : Lists) (Fine : ℕ → Data → Type 0) (below other : Below) (same : Alike Fine below other)
    (closed : (n : ℕ) (d : Data) → Fine n d → (t : Schema) → slice_get schemas n ≡ Some t → IsBodyFine Fine d t.body) where
  verdicts_too : (site : Site) (word : List ℕ) (ts : List Target) (vs : List Bool) → Hold Fine ts → AreVerdicts below site word ts vs → AreVerdicts other site word ts vs
  verdicts_too site word [] vs fine p = p
  verdicts_too site word (t ∷ ts) vs fine (v, a, p, q, e) =
      let s = same t.schema t.value (site_of site word t) [] fine.0 in
      (v, a, ((λ x. s.0 (p.0 x)), (λ x. p.1 (s.1 x))), verdicts_too site word ts a fine.1 q, e)

  verdicts_back : (word : List ℕ) (ts : List Target) (vs : List Bool) → Hold Fine ts → AreVerdicts other root_site word ts vs → AreVerdicts below root_site word ts vs
  verdicts_back word [] vs fine p = p
  verdicts_back word (t ∷ ts) vs fine (v, a, p, q, e) =
      let s = same t.schema t.value (site_of root_site word t) [] fine.0 in
      (v, a, ((λ x. s.1 (p.0 x)), (λ x. p.1 (s.0 x))), verdicts_back word ts a fine.1 q, e)

  each_too : (site : Site) (word : List ℕ) (ts : List Target) (es : List Error) → Hold Fine ts → EachReports below site word ts es → EachReports other site word ts es
  each_too site word [] es fine p = p
  each_too site word (t ∷ ts) es fine (a, b, p, q, e) =
      (a, b, (same t.schema t.value (site_of site word t) a fine.0).0 p, each_too site word ts b fine.1 q, e)

  keyword_too : (header : Header) (beside : List Keyword) (k : Keyword) (d : Data) (site : Site) (es : List Error) → AllByRecursion (IsKeywordFine Fine d beside) beside
      → IsKeywordFine Fine d beside k
      → KeywordReports schemas below lists header beside k d site es → KeywordReports schemas other lists header beside k d site es
  keyword_too header beside (rule word r bs) d site es all fine (vs, l, a, v, c, p, e) =
      let back = verdicts_back in
      let evaluated : (s : Segment) → OneOf (BesideEvaluates schemas below beside d s) beside ↔ OneOf (BesideEvaluates schemas other beside d s) beside =
      λ s. (besides_too Fine below other (verdicts_too root_site) schemas closed beside d s beside all, besides_too Fine other below back schemas closed beside d s beside all) in (
        vs,
        l,
        a,
        verdicts_too site word (tested r bs d) vs fine.0 v,
        unevaluated_too schemas below other beside d evaluated (part_of r) l c,
        each_too site word (applied beside r bs d vs ++ flat_map (on_each l) bs) a
            (both_hold Fine (applied beside r bs d vs) (flat_map (on_each l) bs) (fine.1 vs) (unevaluated_fine schemas below Fine beside d (part_of r) bs l c fine.2)) p,
        e,
      )
  keyword_too header beside (string_keyword word asserted) d site es all fine p = p
  keyword_too header beside (malformed path why) d site es all fine p = p

  keywords_too : (header : Header) (beside ks : List Keyword) (d : Data) (site : Site) (es : List Error) → AllByRecursion (IsKeywordFine Fine d beside) beside
      → AllByRecursion (IsKeywordFine Fine d beside) ks
      → KeywordsReport schemas below lists header beside ks d site es → KeywordsReport schemas other lists header beside ks d site es
  keywords_too header beside [] d site es all fine p = p
  keywords_too header beside (k ∷ ks) d site es all fine (a, b, p, q, e) =
      (a, b, keyword_too header beside k d site a all fine.0 p, keywords_too header beside ks d site b all fine.1 q, e)

  schema_too : (header : Header) (body : Body) (d : Data) (site : Site) (es : List Error) → IsBodyFine Fine d body
      → SchemaReports schemas below lists header body d site es → SchemaReports schemas other lists header body d site es
  schema_too header always d site es fine p = p
  schema_too header never d site es fine p = p
  schema_too header (keywords ks) d site es fine p = keywords_too header ks ks d site es fine fine p
  schema_too header neither d site es fine p = p

module _ (schemas : List Schema) (lists : Lists) (sound : AreSound schemas) where
  module _ (k j s : ℕ) (d : Data) (fits : steps_for (length schemas) d (suc s) ≤ suc k)
      (same : Alike (Fits schemas sound k) (Reports schemas lists k) (Reports schemas lists j)) where
    there_alike : (o : Option Schema) (site : Site) (es : List Error) → ((t : Schema) → o ≡ Some t → IsSoundBody (length schemas) t.body)
        → schema_ends (ends schemas s) o ≡ true
        → MatchOption o ⊥ (λ t. SchemaReports schemas (Reports schemas lists k) lists t.header t.body d site es)
        ↔ MatchOption o ⊥ (λ t. SchemaReports schemas (Reports schemas lists j) lists t.header t.body d site es)
    there_alike None site es good e = absurd (false≢true e)
    there_alike (Some t) site es good e = let fine = body_fits schemas sound k s d fits t.body (good t refl) e in (
      schema_too schemas lists (Fits schemas sound k) (Reports schemas lists k) (Reports schemas lists j) same (body_fits_too schemas sound k) t.header t.body d site es fine,
      schema_too schemas lists (Fits schemas sound k) (Reports schemas lists j) (Reports schemas lists k)
          (turned (Fits schemas sound k) (Reports schemas lists k) (Reports schemas lists j) same) (body_fits_too schemas sound k) t.header t.body d site es fine,
    )

  pub reports_alike : (k j : ℕ) → k ≤ j → Alike (Fits schemas sound k) (Reports schemas lists k) (Reports schemas lists j)
  unfolding Reports ends
  reports_alike k j h n d site es (zero, e, fits) = absurd (false≢true e)
  reports_alike zero j h n d site es (suc s, e, fits) = absurd (omega arith)
  reports_alike (suc k) zero h n d site es (suc s, e, fits) = absurd (omega arith)
  reports_alike (suc k) (suc j) h n d site es (suc s, e, fits) =
      there_alike k j s d fits (reports_alike k j (omega arith)) (slice_get schemas n) site es (sound.each n) e
