-- What the walk that collects appends: keyword by keyword, and target by target.
use Rattle.std.proofs.Common.{◌≡◌, ◌∙◌, ℕ, ◌+◌, ◌-◌, ◌<◌, ◌≤◌, List, [], ◌∷◌, ◌++◌, length, get_or, drop, map, refl, sym, ap, subst, append-nil, append_assoc, true, Vec, Global}
use Rattle.serde_json.specs.Data.{Data}
use Rattle.strkw_report.specs.declared.error.Site.{Site}
use Rattle.strkw_pattern.specs.declared.engine.Outcome.{Outcome}
use Rattle.strkw_keywords.specs.Meanings.{Lists}
use Rattle.neldrafi_schema.specs.declared.error.ValidationError.{ValidationError}
use Rattle.neldrafi_schema.specs.declared.node.Body.TheVariants as body
use Rattle.neldrafi_schema.specs.declared.node.Keyword.{Keyword as CompiledKeyword}
use Rattle.neldrafi_schema.specs.declared.node.Node.{Node}
use Rattle.neldrafi_schema.specs.declared.targets.Target.{Target as FoundTarget}
use Rattle.neldrafi_schema.specs.Errors.{Error, Kind}
use Rattle.neldrafi_schema.specs.Schemas.{Branch, Keyword, Rule, Schema, rule}
use Rattle.neldrafi_schema.specs.Meaning.{Below, EachReports, KeywordReports, KeywordsReport, SchemaReports, error_of, error_of_false, site_of}
use Rattle.neldrafi_schema.specs.Refusals.{ends}
use Rattle.neldrafi_schema.specs.machine.Compiled.{body_of, keyword_of, keywords_of, schemas_of, seen_data, target_of, targets_of}
use Rattle.neldrafi_schema.specs.machine.Found.{Appended}
use Rattle.neldrafi_schema.specs.machine.Left.{AreFindings}
use Rattle.neldrafi_schema.specs.machine.Ready.{steps_for}
use Rattle.neldrafi_schema.proofs.Appending.{appended_alike, both_appended, nothing_appended}
use Rattle.neldrafi_schema.proofs.Lists.{drop_one, drop_past}
use Rattle.neldrafi_schema.proofs.Visiting.{Within, always_accepts, is_body, one_less}
use Rattle.neldrafi_schema.specs.Schemas.{Header}
use Rattle.neldrafi_schema.specs.machine.Compiled.{header_of}

module _ {E : Type 0} (outcome : E → List ℕ → Outcome) (nodes : List (Node E)) (n steps : ℕ) (node : Node E) (is : node ≡ get_or nodes n node)
    (end : ends (schemas_of outcome nodes) steps n ≡ true) where
  pub always_appends : (get_or nodes n node).body ≡ body.Always → (lists : Lists) (d : Data) (k : ℕ) (site : Site) (old : List ValidationError)
      → steps_for (length nodes) d steps ≤ k → Appended (Within outcome nodes lists k n d site) old old
  always_appends e lists d k site old h = nothing_appended _ old ((always_accepts outcome nodes n steps node is end e lists d k site h).0 refl)

  is_never : (get_or nodes n node).body ≡ body.Never → (lists : Lists) (d : Data) (j : ℕ) (site : Site) (es : List Error)
      → es ≡ error_of_false (header_of (get_or nodes n node).header) site d ∷ [] → SchemaReports (schemas_of outcome nodes) (Within outcome nodes lists j) lists (header_of node.header) (body_of outcome node.body) d site es
  is_never e lists d j site es r = rw (is, e) r

  pub never_appends : (get_or nodes n node).body ≡ body.Never → (lists : Lists) (d : Data) (k : ℕ) (site : Site) (old new : List ValidationError)
      → steps_for (length nodes) d steps ≤ k
      → Appended (λ es. es ≡ error_of_false (header_of (get_or nodes n node).header) site d ∷ []) old new → Appended (Within outcome nodes lists k n d site) old new
  never_appends e lists d k site old new h =
      let (j, less, same) = one_less outcome nodes n steps node is end lists d k h in
      appended_alike _ _ old new (λ es r. subst (λ X. X) (sym (same site es)) (is_never e lists d j site es r))

  -- those of its keywords
  module _ (ks : Vec (CompiledKeyword E) Global) (items : List (CompiledKeyword E)) (e : (get_or nodes n node).body ≡ body.Keywords ks) (read : items ≡ ks.items) where
    in_node : (lists : Lists) (d : Data) (j : ℕ) (site : Site) (es : List Error)
        → KeywordsReport (schemas_of outcome nodes) (Within outcome nodes lists j) lists (header_of (get_or nodes n node).header) (keywords_of outcome items) (keywords_of outcome items) d site es
        → SchemaReports (schemas_of outcome nodes) (Within outcome nodes lists j) lists (header_of node.header) (body_of outcome node.body) d site es
    in_node lists d j site es r = rw (is_body outcome nodes n steps node is end ks items e read)
        (subst (λ l. KeywordsReport (schemas_of outcome nodes) (Within outcome nodes lists j) lists l (keywords_of outcome items) (keywords_of outcome items) d site es) (sym (ap (λ t. header_of t.header) is)) r)

    pub keywords_append : (lists : Lists) (d : Data) (k : ℕ) (site : Site) (old new : List ValidationError) (i : ℕ) → length items ≤ i
        → steps_for (length nodes) d steps ≤ k
        → ((j : ℕ) → steps_for (length nodes) d (steps - 1) ≤ j → Appended (λ es. (later : List Error)
        → KeywordsReport (schemas_of outcome nodes) (Within outcome nodes lists j) lists (header_of (get_or nodes n node).header) (keywords_of outcome items) (keywords_of outcome (drop i items)) d site later
        → KeywordsReport (schemas_of outcome nodes) (Within outcome nodes lists j) lists (header_of (get_or nodes n node).header) (keywords_of outcome items) (keywords_of outcome items) d site (es ++ later)) old new)
        → Appended (Within outcome nodes lists k n d site) old new
    keywords_append lists d k site old new i all enough so =
        let (j, less, same) = one_less outcome nodes n steps node is end lists d k enough in
        appended_alike _ _ old new
        (λ es p. subst (λ X. X) (sym (same site es)) (in_node lists d j site es
        (subst (λ l. KeywordsReport (schemas_of outcome nodes) (Within outcome nodes lists j) lists (header_of (get_or nodes n node).header) (keywords_of outcome items) (keywords_of outcome items) d site l)
        (append-nil es) (p [] (rw (drop_past items i all) refl)))))
        (so j less)

module _ {E : Type 0} (outcome : E → List ℕ → Outcome) (schemas : List Schema) (below : Below) (lists : Lists) (header : Header) (d : Data) (site : Site)
    (items beside : List (CompiledKeyword E)) (i : ℕ) (key : CompiledKeyword E) (inside : i < length items) (at : key ≡ get_or items i key) (read : beside ≡ items)
    (old mid new : List ValidationError) where
  -- where these are left
  abbrev Left : List (CompiledKeyword E) → List Error → Type 0
  Left left es = (later : List Error) → KeywordsReport schemas below lists header (keywords_of outcome items) (keywords_of outcome left) d site later
      → KeywordsReport schemas below lists header (keywords_of outcome items) (keywords_of outcome items) d site (es ++ later)

  first_of_left : (es fs : List Error) → Left (key ∷ drop (i + 1) items) es
      → KeywordReports schemas below lists header (keywords_of outcome items) (keyword_of outcome key) d site fs → Left (drop (i + 1) items) (es ++ fs)
  first_of_left es fs p q later rest =
      subst (λ l. KeywordsReport schemas below lists header (keywords_of outcome items) (keywords_of outcome items) d site l) (sym (append_assoc es fs later))
      (p (fs ++ later) (fs, later, q, rest, refl))

  pub keyword_appends : Appended (Left (drop i items)) old mid
      → Appended (KeywordReports schemas below lists header (keywords_of outcome beside) (keyword_of outcome key) d site) mid new → Appended (Left (drop (i + 1) items)) old new
  keyword_appends before this = both_appended (Left (key ∷ drop (i + 1) items)) (KeywordReports schemas below lists header (keywords_of outcome items) (keyword_of outcome key) d site)
      (Left (drop (i + 1) items)) old mid new first_of_left
      (subst (λ l. Appended (Left l) old mid) (drop_one items i key inside at) before)
      (subst (λ l. Appended (KeywordReports schemas below lists header (keywords_of outcome l) (keyword_of outcome key) d site) mid new) read this)

module _ (schemas : List Schema) (below : Below) (lists : Lists) (header : Header) (beside : List Keyword) (word : List ℕ) (r : Rule) (bs : List Branch) (d : Data) (site : Site)
    (items : List FoundTarget) where
  abbrev TargetsLeft : List FoundTarget → List Error → Type 0
  TargetsLeft left es = (later : List Error) → EachReports below site word (targets_of left) later
      → KeywordReports schemas below lists header beside (rule word r bs) d site (es ++ later)

  -- a keyword's own errors come first
  pub kinds_first : (found : List Kind) (old new : List ValidationError) → AreFindings schemas below beside (rule word r bs) d site found (targets_of items)
      → Appended (λ es. es ≡ map (error_of header site word d) found) old new → Appended (TargetsLeft items) old new
  kinds_first found old new (vs, left, tests, rest, e, same) = appended_alike _ _ old new
      (λ es x later each. (
        vs,
        left,
        later,
        tests,
        rest,
        subst (λ ts. EachReports below site word ts later) same each,
        ap (λ l. l ++ later) (x ∙ ap (map (error_of header site word d)) e),
      ))

  module _ (i : ℕ) where
    pub no_more_targets : (old new : List ValidationError) → length items ≤ i → Appended (TargetsLeft (drop i items)) old new
        → Appended (KeywordReports schemas below lists header beside (rule word r bs) d site) old new
    no_more_targets old new all = appended_alike _ _ old new
        (λ es p. subst (λ l. KeywordReports schemas below lists header beside (rule word r bs) d site l) (append-nil es) (p [] (rw (drop_past items i all) refl)))

    module _ (t : FoundTarget) (inside : i < length items) (at : t ≡ get_or items i t) where
      first_target : (es fs : List Error) → TargetsLeft (t ∷ drop (i + 1) items) es → below t.schema (seen_data t.value) (site_of site word (target_of t)) fs
          → TargetsLeft (drop (i + 1) items) (es ++ fs)
      first_target es fs p q later rest =
          subst (λ l. KeywordReports schemas below lists header beside (rule word r bs) d site l) (sym (append_assoc es fs later)) (p (fs ++ later) (fs, later, q, rest, refl))

      pub target_appends : (old mid new : List ValidationError) → Appended (TargetsLeft (drop i items)) old mid
          → Appended (below t.schema (seen_data t.value) (site_of site word (target_of t))) mid new → Appended (TargetsLeft (drop (i + 1) items)) old new
      target_appends old mid new before this =
          both_appended (TargetsLeft (t ∷ drop (i + 1) items)) _ (TargetsLeft (drop (i + 1) items)) old mid new first_target
          (subst (λ l. Appended (TargetsLeft l) old mid) (drop_one items i t inside at) before) this
