-- The walk at the nodes of a compiled schema.
use Rattle.std.proofs.Common.{◌≡◌, ◌↔◌, ◌∙◌, ℕ, zero, suc, ◌+◌, ◌-◌, ◌<◌, ◌≤◌, List, [], ◌∷◌, ◌++◌, length, get_or, drop, refl, sym, ap, subst, arith, append_assoc, Bool, true, false, IsTrue, Vec, Global, string_bytes}
use Rattle.std.proofs.lemmas.Bool.{false≢true}
use Rattle.std.specs.Prelude.{if◌then◌else◌}
use Rattle.std.specs.List.{AllByRecursion, list_all}
use Rattle.serde_json.specs.Data.{Data}
use Rattle.strkw_report.specs.declared.error.Site.{Site}
use Rattle.strkw_pattern.specs.declared.engine.Outcome.{Outcome}
use Rattle.strkw_keywords.specs.Meanings.{Lists}
use Rattle.strkw_keywords.specs.declared.validator.Validator.{Validator}
use Rattle.neldrafi_schema.specs.declared.node.Body.TheVariants as body
use Rattle.neldrafi_schema.specs.declared.node.Branch.{Branch as CompiledBranch}
use Rattle.neldrafi_schema.specs.declared.node.Keyword.{Keyword as CompiledKeyword}
use Rattle.neldrafi_schema.specs.declared.node.Node.{Node}
use Rattle.neldrafi_schema.specs.declared.node.Ruled.{Ruled}
use Rattle.neldrafi_schema.specs.declared.targets.Target.{Target as FoundTarget}
use Rattle.neldrafi_schema.specs.Errors.{Error, Kind}
use Rattle.neldrafi_schema.specs.Schemas.{Keyword, keywords}
use Rattle.neldrafi_schema.specs.Rules.{tested}
use Rattle.neldrafi_schema.specs.Meaning.{AreVerdicts, Below, EachReports, KeywordReports, KeywordsReport, Reports, SchemaReports, site_of}
use Rattle.neldrafi_schema.specs.Refusals.{ends, in_place, is_in_place, keywords_end}
use Rattle.neldrafi_schema.specs.machine.Compiled.{body_of, branches_of, keyword_of, keywords_of, rule_of, ruled_of, schemas_of, seen_data, target_of, targets_of}
use Rattle.neldrafi_schema.specs.machine.Annotated.{AreAnnotated}
use Rattle.neldrafi_schema.specs.machine.Left.{AreFindings}
use Rattle.neldrafi_schema.specs.machine.Ready.{IsBodyReady, IsKeywordReady, IsReady, IsRuledReady, steps_for}
use Rattle.neldrafi_schema.proofs.Endings.{all_below, ends_inside, ends_some, keyword_below, reports_there}
use Rattle.neldrafi_schema.proofs.Lists.{all_at, drop_one}
use Rattle.neldrafi_schema.proofs.Visited.{annotated_next, found_next, holds, keyword_first, keyword_passed, refutes, target_first, target_passed, tested_next, verdict_first}
use Rattle.neldrafi_schema.proofs.Within.{Hold}
use Rattle.neldrafi_schema.specs.Schemas.{Header}
use Rattle.neldrafi_schema.specs.machine.Compiled.{header_of}

-- no more steps are left than there are schemas
pub few_below : (here : Bool) (steps count left : ℕ) → steps ≤ count → left ≡ (if here then steps else count) → left ≤ count
few_below true steps count left h e = omega (arith, h, e)
few_below false steps count left h e = omega (arith, e)

module _ {E : Type 0} (outcome : E → List ℕ → Outcome) (nodes : List (Node E)) where
  abbrev pub Within : Lists → ℕ → Below
  Within lists k = Reports (schemas_of outcome nodes) lists k

  -- a node that is visited within so many steps
  module _ (n steps : ℕ) (node : Node E) (is : node ≡ get_or nodes n node) (end : ends (schemas_of outcome nodes) steps n ≡ true) where
    -- they leave one less for its keywords
    pub one_less : (lists : Lists) (d : Data) (k : ℕ) → steps_for (length nodes) d steps ≤ k → (j : ℕ) × (steps_for (length nodes) d (steps - 1) ≤ j)
        × ((site : Site) (es : List Error) → Within lists k n d site es ≡ SchemaReports (schemas_of outcome nodes) (Within lists j) lists (header_of node.header) (body_of outcome node.body) d site es)
    one_less lists d zero h = absurd (omega (arith, ends_some (schemas_of outcome nodes) steps n end))
    one_less lists d (suc j) h = (
      j,
      omega (arith, ends_some (schemas_of outcome nodes) steps n end),
      λ site es. reports_there outcome nodes lists j n node d site es (ends_inside outcome nodes steps n end) is,
    )

    -- what is so of its body is so of the schema
    by_body : (lists : Lists) (d : Data) (b : Bool) (k : ℕ) (site : Site) → steps_for (length nodes) d steps ≤ k
        → ((j : ℕ) → steps_for (length nodes) d (steps - 1) ≤ j → IsTrue b ↔ SchemaReports (schemas_of outcome nodes) (Within lists j) lists (header_of node.header) (body_of outcome node.body) d site [])
        → IsTrue b ↔ Within lists k n d site []
    by_body lists d b k site h so =
        let (j, less, same) = one_less lists d k h in
        subst (λ (X : Type 0). IsTrue b ↔ X) (sym (same site [])) (so j less)

    pub always_accepts : (get_or nodes n node).body ≡ body.Always → (lists : Lists) (d : Data) (k : ℕ) (site : Site) → steps_for (length nodes) d steps ≤ k
        → IsTrue true ↔ Within lists k n d site []
    always_accepts e lists d k site h = by_body lists d true k site h (λ j less. rw (is, e) (λ t. refl, λ r. refl))

    pub never_accepts : (get_or nodes n node).body ≡ body.Never → (lists : Lists) (d : Data) (k : ℕ) (site : Site) → steps_for (length nodes) d steps ≤ k
        → IsTrue false ↔ Within lists k n d site []
    never_accepts e lists d k site h = by_body lists d false k site h (λ j less. rw (is, e) (λ t. absurd (false≢true t), λ r. cc))

    module _ (ks : Vec (CompiledKeyword E) Global) (items : List (CompiledKeyword E)) (e : (get_or nodes n node).body ≡ body.Keywords ks) (read : items ≡ ks.items) where
      pub is_body : body_of outcome node.body ≡ keywords (keywords_of outcome items)
      is_body = ap (λ t. body_of outcome t.body) is ∙ ap (body_of outcome) e ∙ ap (λ l. keywords (keywords_of outcome l)) (sym read)

      -- each of its keywords is ready, and what it leads to ends with a step less
      pub keywords_ready : (MayCall : Validator E → Type 0) → AllByRecursion (λ t. IsBodyReady outcome MayCall (length nodes) t.body) nodes
          → AllByRecursion (IsKeywordReady outcome MayCall (length nodes)) items
      keywords_ready MayCall each =
          let ready : IsBodyReady outcome MayCall (length nodes) node.body =
          all_at (λ t. IsBodyReady outcome MayCall (length nodes) t.body) nodes n node each (ends_inside outcome nodes steps n end) is in
          rw read (subst (IsBodyReady outcome MayCall (length nodes)) (ap (λ t. t.body) is ∙ e) ready)

      pub keyword_ready : (MayCall : Validator E → Type 0) (i : ℕ) (key : CompiledKeyword E) → i < length items → key ≡ get_or items i key
          → AllByRecursion (λ t. IsBodyReady outcome MayCall (length nodes) t.body) nodes → IsKeywordReady outcome MayCall (length nodes) key
      keyword_ready MayCall i key h at each = all_at (IsKeywordReady outcome MayCall (length nodes)) items i key (keywords_ready MayCall each) h at

      pub keyword_ends : (i : ℕ) (key : CompiledKeyword E) → i < length items → key ≡ get_or items i key
          → list_all (ends (schemas_of outcome nodes) (steps - 1)) (in_place (keyword_of outcome key)) ≡ true
      keyword_ends i key h at = keyword_below outcome nodes n steps node items is i key is_body h at end

      pub keywords_below : keywords_end (ends (schemas_of outcome nodes) (steps - 1)) (keywords_of outcome items) ≡ true
      keywords_below = all_below outcome nodes n steps node items is is_body end

      pub keywords_accept : (lists : Lists) (d : Data) (k : ℕ) (site : Site) → steps_for (length nodes) d steps ≤ k
          → ((j : ℕ) → steps_for (length nodes) d (steps - 1) ≤ j
          → KeywordsReport (schemas_of outcome nodes) (Within lists j) lists (header_of node.header) (keywords_of outcome items) (keywords_of outcome items) d site [])
          → IsTrue true ↔ Within lists k n d site []
      keywords_accept lists d k site h so = by_body lists d true k site h (λ j less. rw is_body (holds _ true refl (so j less)))

      pub keywords_refuse : (lists : Lists) (d : Data) (k : ℕ) (site : Site) → steps_for (length nodes) d steps ≤ k
          → ((j : ℕ) → steps_for (length nodes) d (steps - 1) ≤ j
          → KeywordsReport (schemas_of outcome nodes) (Within lists j) lists (header_of node.header) (keywords_of outcome items) (keywords_of outcome items) d site [] → ⊥)
          → IsTrue false ↔ Within lists k n d site []
      keywords_refuse lists d k site h so = by_body lists d false k site h (λ j less. rw is_body (refutes _ false refl (λ r. absurd (so j less r))))

  -- ---- keyword by keyword

  module _ (below : Below) (lists : Lists) (header : Header) (d : Data) (site : Site) (items beside : List (CompiledKeyword E)) (i : ℕ) (key : CompiledKeyword E)
      (inside : i < length items) (at : key ≡ get_or items i key) (read : beside ≡ items) (b : Bool)
      (says : IsTrue b ↔ KeywordReports (schemas_of outcome nodes) below lists header (keywords_of outcome beside) (keyword_of outcome key) d site []) where
    abbrev All : List (CompiledKeyword E) → Type 0
    All left = KeywordsReport (schemas_of outcome nodes) below lists header (keywords_of outcome items) (keywords_of outcome items) d site []
        ↔ KeywordsReport (schemas_of outcome nodes) below lists header (keywords_of outcome items) (keywords_of outcome left) d site []

    its : IsTrue b ↔ KeywordReports (schemas_of outcome nodes) below lists header (keywords_of outcome items) (keyword_of outcome key) d site []
    its = subst (λ l. IsTrue b ↔ KeywordReports (schemas_of outcome nodes) below lists header (keywords_of outcome l) (keyword_of outcome key) d site []) read says

    pub goes_on : b ≡ true → All (drop i items) → All (drop (i + 1) items)
    goes_on e before =
        let here = subst All (drop_one items i key inside at) before in
        let passed = keyword_passed (schemas_of outcome nodes) below lists header (keywords_of outcome items) d site (keyword_of outcome key) (keywords_of outcome (drop (i + 1) items)) (its.0 e) in
        (λ x. passed.0 (here.0 x), λ y. here.1 (passed.1 y))

    pub stops : b ≡ false → All (drop i items) → KeywordsReport (schemas_of outcome nodes) below lists header (keywords_of outcome items) (keywords_of outcome items) d site [] → ⊥
    stops e before x =
        let here = subst All (drop_one items i key inside at) before in
        false≢true (sym e ∙ its.1 (keyword_first (schemas_of outcome nodes) below lists header (keywords_of outcome items) d site (keyword_of outcome key) (keywords_of outcome (drop (i + 1) items)) (here.0 x)))

  -- ---- target by target

  all_branches : (count : ℕ) (bs : List CompiledBranch) → AllByRecursion (λ b. b.schema < count) bs → AllByRecursion (λ b. b.schema < count) (branches_of bs)
  all_branches count [] all = tt
  all_branches count (b ∷ bs) all = (all.0, all_branches count bs all.1)

  module _ (MayCall : Validator E → Type 0) (ready : IsReady outcome MayCall nodes) (ruled : Ruled E) (d : Data) (steps left : ℕ)
      (this : IsRuledReady outcome MayCall (length nodes) ruled) (here : list_all (ends (schemas_of outcome nodes) steps) (in_place (ruled_of outcome ruled)) ≡ true)
      (is : left ≡ (if is_in_place (rule_of outcome ruled.rule) then steps else length nodes)) where
    abbrev pub Next : ℕ → Data → Type 0
    Next n v = (ends (schemas_of outcome nodes) left n ≡ true) × (steps_for (length nodes) v left ≤ steps_for (length nodes) d steps)

    next_at : (items : List FoundTarget) (i : ℕ) (t : FoundTarget) → Hold Next (targets_of items) → i < length items → t ≡ get_or items i t → Next t.schema (seen_data t.value)
    next_at [] i t all h e = absurd (omega arith)
    next_at (u ∷ items) zero t all h e = subst (λ x. Next x.schema (seen_data x.value)) (sym e) all.0
    next_at (u ∷ items) (suc i) t all h e = next_at items i t all.1 (omega arith) e

    pub next_tested : (items : List FoundTarget) (i : ℕ) (t : FoundTarget) → targets_of items ≡ tested (rule_of outcome ruled.rule) (branches_of ruled.branches.items) d
        → i < length items → t ≡ get_or items i t → Next t.schema (seen_data t.value)
    next_tested items i t same = next_at items i t (subst (Hold Next) (sym same)
        (tested_next (schemas_of outcome nodes) (length nodes) (string_bytes ruled.name) (rule_of outcome ruled.rule) (branches_of ruled.branches.items) d steps left
        (all_branches (length nodes) ruled.branches.items this.1) ready.end here is))

    pub next_annotated : (below : Below) (beside : List Keyword) (site : Site) (items : List FoundTarget) (i : ℕ) (t : FoundTarget)
        → AreAnnotated (schemas_of outcome nodes) below beside (ruled_of outcome ruled) d site (targets_of items)
        → i < length items → t ≡ get_or items i t → Next t.schema (seen_data t.value)
    next_annotated below beside site items i t f = next_at items i t
        (annotated_next (schemas_of outcome nodes) (length nodes) (string_bytes ruled.name) (rule_of outcome ruled.rule) (branches_of ruled.branches.items) d steps left
        (all_branches (length nodes) ruled.branches.items this.1) ready.end here is below beside site (targets_of items) f)

    pub next_found : (below : Below) (beside : List Keyword) (site : Site) (found : List Kind) (items : List FoundTarget) (i : ℕ) (t : FoundTarget)
        → AreFindings (schemas_of outcome nodes) below beside (ruled_of outcome ruled) d site found (targets_of items)
        → i < length items → t ≡ get_or items i t → Next t.schema (seen_data t.value)
    next_found below beside site found items i t f = next_at items i t
        (found_next (schemas_of outcome nodes) (length nodes) (string_bytes ruled.name) (rule_of outcome ruled.rule) (branches_of ruled.branches.items) d steps left
        (all_branches (length nodes) ruled.branches.items this.1) ready.end here is below beside site found (targets_of items) f)

module _ (below : Below) (site : Site) (word : List ℕ) (items : List FoundTarget) (i : ℕ) (t : FoundTarget) (inside : i < length items) (at : t ≡ get_or items i t) (b : Bool)
    (says : IsTrue b ↔ below t.schema (seen_data t.value) (site_of site word (target_of t)) []) where
  abbrev AllTargets : List FoundTarget → Type 0
  AllTargets left = EachReports below site word (targets_of items) [] ↔ EachReports below site word (targets_of left) []

  pub goes_on_target : b ≡ true → AllTargets (drop i items) → AllTargets (drop (i + 1) items)
  goes_on_target e before =
      let here = subst AllTargets (drop_one items i t inside at) before in
      let passed = target_passed below site word (target_of t) (targets_of (drop (i + 1) items)) (says.0 e) in
      (λ x. passed.0 (here.0 x), λ y. here.1 (passed.1 y))

  pub stops_target : b ≡ false → AllTargets (drop i items) → EachReports below site word (targets_of items) [] → ⊥
  stops_target e before x =
      let here = subst AllTargets (drop_one items i t inside at) before in
      false≢true (sym e ∙ says.1 (target_first below site word (target_of t) (targets_of (drop (i + 1) items)) (here.0 x)))

  -- one verdict more
  pub verdict_more : (vs new : List Bool) → new ≡ vs ++ b ∷ []
      → ((later : List Bool) → AreVerdicts below site word (targets_of (drop i items)) later → AreVerdicts below site word (targets_of items) (vs ++ later))
      → (later : List Bool) → AreVerdicts below site word (targets_of (drop (i + 1) items)) later → AreVerdicts below site word (targets_of items) (new ++ later)
  verdict_more vs new pushed before later rest =
      subst (λ l. AreVerdicts below site word (targets_of items) l) (sym (ap (λ l. l ++ later) pushed ∙ append_assoc vs (b ∷ []) later))
      (before (b ∷ later) (subst (λ l. AreVerdicts below site word (targets_of l) (b ∷ later)) (sym (drop_one items i t inside at))
      (verdict_first below site word (target_of t) (targets_of (drop (i + 1) items)) b later says rest)))
