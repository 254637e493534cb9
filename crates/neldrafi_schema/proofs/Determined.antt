-- An instance has at most one list of errors.
use Rattle.std.proofs.Common.{◌≡◌, ◌↔◌, ℕ, zero, suc, List, [], ◌∷◌, ◌++◌, refl, sym, ap, ◌∙◌, subst, Bool, true, false, Some, None, Option, map, IsTrue}
use Rattle.std.specs.Prelude.{MatchOption, slice_get}
use Rattle.std.specs.List.{flat_map}
use Rattle.serde_json.specs.Data.{Data}
use Rattle.serde_json.specs.Find.{as_str}
use Rattle.strkw_report.specs.declared.error.Site.{Site}
use Rattle.strkw_keywords.specs.Laws.{ReportsAreDetermined}
use Rattle.strkw_keywords.specs.Meanings.{Lists}
use Rattle.neldrafi_schema.specs.Errors.{Error, of_text}
use Rattle.neldrafi_schema.specs.Schemas.{Keyword, rule, string_keyword, malformed, Body, always, never, keywords, neither, Schema}
use Rattle.neldrafi_schema.specs.Rules.{Child, Target, applied, kinds, left_kinds, on_each, part_of, tested}
use Rattle.neldrafi_schema.specs.Meaning.{AreVerdicts, Below, EachReports, KeywordReports, KeywordsReport, SchemaReports, Reports, absolute_below, error_of, site_of}
use Rattle.neldrafi_schema.proofs.Spanning.{unevaluated_same}
use Rattle.neldrafi_schema.specs.Schemas.{Header}

-- two lists in two parts
joined : {A : Type 0} (a b c d xs ys : List A) → xs ≡ a ++ b → ys ≡ c ++ d → a ≡ c → b ≡ d → xs ≡ ys
joined a b c d xs ys e f p q = cc

-- what decides one thing is one
decided : (X : Type 0) (v w : Bool) → (IsTrue v ↔ X) → (IsTrue w ↔ X) → v ≡ w
decided X true true p q = refl
decided X true false p q = sym (q.1 (p.0 refl))
decided X false true p q = p.1 (q.0 refl)
decided X false false p q = refl

-- the same is tested with the same verdicts
pub verdicts_same : (below : Below) (site : Site) (word : List ℕ) (ts : List Target) (vs ws : List Bool) → AreVerdicts below site word ts vs → AreVerdicts below site word ts ws → vs ≡ ws
verdicts_same below site word [] vs ws p q = p ∙ sym q
verdicts_same below site word (t ∷ ts) vs ws (v, a, p, ps, e) (w, b, q, qs, f) =
    let one = decided _ v w p q in
    let rest = verdicts_same below site word ts a b ps qs in
    rw (e, f, one, rest) refl

module _ (once : ReportsAreDetermined) (schemas : List Schema) (lists : Lists) (below : Below) (same : (n : ℕ) (d : Data) (site : Site) (es fs : List Error) → below n d site es → below n d site fs → es ≡ fs) where
  each_same : (site : Site) (word : List ℕ) (ts : List Target) (es fs : List Error) → EachReports below site word ts es → EachReports below site word ts fs → es ≡ fs
  each_same site word [] es fs p q = p ∙ sym q
  each_same site word (t ∷ ts) es fs (a, b, p, ps, e) (c, d, q, qs, f) =
      joined a b c d es fs e f (same t.schema t.value (site_of site word t) a c p q) (each_same site word ts b d ps qs)

  keyword_same : (header : Header) (beside : List Keyword) (k : Keyword) (d : Data) (site : Site) (es fs : List Error) → KeywordReports schemas below lists header beside k d site es
      → KeywordReports schemas below lists header beside k d site fs → es ≡ fs
  keyword_same header beside (rule word r bs) d site es fs (vs, l, a, v, c, p, e) (ws, m, b, w, c', q, f) =
      let one = verdicts_same below site word (tested r bs d) vs ws v w in
      let rest = unevaluated_same schemas below beside d (part_of r) l m c c' in
      let own : List Bool → List Child → List Error = λ us cs. map (error_of header site word d) (kinds beside word r d us ++ left_kinds (part_of r) bs cs) in
      let lead : List Bool → List Child → List Target = λ us cs. applied beside r bs d us ++ flat_map (on_each cs) bs in
      let first : EachReports below site word (lead ws m) a =
      subst (λ us. EachReports below site word (lead us m) a) one (subst (λ cs. EachReports below site word (lead vs cs) a) rest p) in
      joined (own vs l) a (own ws m) b es fs e f (ap (λ us. own us l) one ∙ ap (λ cs. own ws cs) rest) (each_same site word (lead ws m) a b first q)
  keyword_same header beside (string_keyword word asserted) d site es fs (rs, p, e) (others, q, f) =
      e ∙ ap (map (of_text (absolute_below header.absolute word))) (once asserted lists site (as_str d) rs others p q) ∙ sym f
  keyword_same header beside (malformed path why) d site es fs p q = absurd p

  keywords_same : (header : Header) (beside ks : List Keyword) (d : Data) (site : Site) (es fs : List Error) → KeywordsReport schemas below lists header beside ks d site es
      → KeywordsReport schemas below lists header beside ks d site fs → es ≡ fs
  keywords_same header beside [] d site es fs p q = p ∙ sym q
  keywords_same header beside (k ∷ ks) d site es fs (a, b, p, ps, e) (c, b', q, qs, f) =
      joined a b c b' es fs e f (keyword_same header beside k d site a c p q) (keywords_same header beside ks d site b b' ps qs)

  schema_same : (header : Header) (body : Body) (d : Data) (site : Site) (es fs : List Error) → SchemaReports schemas below lists header body d site es
      → SchemaReports schemas below lists header body d site fs → es ≡ fs
  schema_same header always d site es fs p q = p ∙ sym q
  schema_same header never d site es fs p q = p ∙ sym q
  schema_same header (keywords ks) d site es fs p q = keywords_same header ks ks d site es fs p q
  schema_same header neither d site es fs p q = absurd p

  there_same : (o : Option Schema) (d : Data) (site : Site) (es fs : List Error) → MatchOption o ⊥ (λ s. SchemaReports schemas below lists s.header s.body d site es)
      → MatchOption o ⊥ (λ s. SchemaReports schemas below lists s.header s.body d site fs) → es ≡ fs
  there_same None d site es fs p q = absurd p
  there_same (Some s) d site es fs p q = schema_same s.header s.body d site es fs p q

-- within so many steps there is one list at most
pub reports_same : (once : ReportsAreDetermined) (schemas : List Schema) (lists : Lists) (steps n : ℕ) (d : Data) (site : Site) (es fs : List Error)
    → Reports schemas lists steps n d site es → Reports schemas lists steps n d site fs → es ≡ fs
unfolding Reports
reports_same once schemas lists zero n d site es fs p q = absurd p
reports_same once schemas lists (suc steps) n d site es fs p q =
    there_same once schemas lists (Reports schemas lists steps) (reports_same once schemas lists steps) (slice_get schemas n) d site es fs p q
