-- Ways that end, at the nodes of a compiled schema.
use Rattle.std.proofs.Common.{add-one, replicate, suc-add, zero-add, ◌≡◌, ℕ, zero, suc, ◌+◌, ◌-◌, ◌<◌, ◌≤◌, List, [], ◌∷◌, length, get_or, map, refl, sym, ap, ◌∙◌, subst, arith, Bool, true, false, Some, None, Option}
use Rattle.std.proofs.lemmas.Bool.{false≢true}
use Rattle.std.proofs.lemmas.List.{length-map}
use Rattle.std.proofs.lemmas.Option.{slice_get-map, slice_get_within}
use Rattle.std.specs.Prelude.{option_map, unwrap_or}
use Rattle.std.specs.Cmp.Lexicographic.{pointwise}
use Rattle.std.specs.List.{list_all, slice_get}
use mathlib.Core.Bool.{beq}
use Rattle.serde_json.specs.Data.{Data}
use Rattle.strkw_report.specs.declared.error.Site.{Site}
use Rattle.strkw_pattern.specs.declared.engine.Outcome.{Outcome}
use Rattle.strkw_keywords.specs.Meanings.{Lists}
use Rattle.neldrafi_schema.specs.declared.node.Keyword.{Keyword as CompiledKeyword}
use Rattle.neldrafi_schema.specs.declared.node.Node.{Node}
use Rattle.neldrafi_schema.specs.Errors.{Error}
use Rattle.neldrafi_schema.specs.Schemas.{Schema, Keyword, keywords}
use Rattle.neldrafi_schema.specs.Meaning.{Reports, SchemaReports}
use Rattle.neldrafi_schema.specs.Refusals.{ends, schema_ends, body_ends, keywords_end, in_place}
use Rattle.neldrafi_schema.specs.machine.Compiled.{schemas_of, schema_of, body_of, keyword_of}
use Rattle.neldrafi_schema.specs.machine.Said.{flag_at}
use Rattle.neldrafi_schema.proofs.Fitting.{and_left, and_right}
use Rattle.neldrafi_schema.proofs.Lists.{there}
use Rattle.neldrafi_schema.proofs.Meaningful.{schema_ends_alike}
use Rattle.neldrafi_schema.specs.machine.Compiled.{header_of}

-- a schema that ends takes a step
pub ends_some : (schemas : List Schema) (steps n : ℕ) → ends schemas steps n ≡ true → 0 < steps
unfolding ends
ends_some schemas zero n e = absurd (false≢true e)
ends_some schemas (suc steps) n e = omega arith

module _ {E : Type 0} (outcome : E → List ℕ → Outcome) (nodes : List (Node E)) where
  -- the schema of a node
  pub schema_there : (n : ℕ) (node : Node E) → n < length nodes → node ≡ get_or nodes n node → slice_get (schemas_of outcome nodes) n ≡ Some (schema_of outcome node)
  schema_there n node h e = slice_get-map (schema_of outcome) nodes n ∙ ap (option_map (schema_of outcome)) (there nodes n node h e)

  is_inside : (end : ℕ → Bool) (t : Option Schema) (n : ℕ) → slice_get (schemas_of outcome nodes) n ≡ t → schema_ends end t ≡ true → n < length nodes
  is_inside end None n e h = absurd (false≢true h)
  is_inside end (Some t) n e h = omega (arith, slice_get_within (schemas_of outcome nodes) n t e, length-map nodes (schema_of outcome))

  -- one that ends is there
  pub ends_inside : (steps n : ℕ) → ends (schemas_of outcome nodes) steps n ≡ true → n < length nodes
  unfolding ends
  ends_inside zero n e = absurd (false≢true e)
  ends_inside (suc steps) n e = is_inside (ends (schemas_of outcome nodes) steps) _ n refl e

  -- and so do, with a step less, those to which it leads
  pub ends_below : (steps n : ℕ) (node : Node E) → n < length nodes → node ≡ get_or nodes n node → ends (schemas_of outcome nodes) (suc steps) n ≡ true
      → body_ends (ends (schemas_of outcome nodes) steps) (body_of outcome node.body) ≡ true
  unfolding ends
  ends_below steps n node h e end = sym (ap (schema_ends (ends (schemas_of outcome nodes) steps)) (schema_there n node h e)) ∙ end

  -- what a node's schema reports
  pub reports_there : (lists : Lists) (steps n : ℕ) (node : Node E) (d : Data) (site : Site) (es : List Error) → n < length nodes → node ≡ get_or nodes n node
      → Reports (schemas_of outcome nodes) lists (suc steps) n d site es
      ≡ SchemaReports (schemas_of outcome nodes) (Reports (schemas_of outcome nodes) lists steps) lists (header_of node.header) (body_of outcome node.body) d site es
  unfolding Reports
  reports_there lists steps n node d site es h e = rw (schema_there n node h e) refl

-- where keywords end, each of them does
pub keyword_end : {K : Type 0} (of : K → Keyword) (end : ℕ → Bool) (ks : List K) (i : ℕ) (k : K) → keywords_end end (map of ks) ≡ true → i < length ks
    → k ≡ get_or ks i k → list_all end (in_place (of k)) ≡ true
keyword_end of end [] i k e h is = absurd (omega arith)
keyword_end of end (j ∷ ks) zero k e h is = rw is (and_left _ _ e)
keyword_end of end (j ∷ ks) (suc i) k e h is = keyword_end of end ks i k (and_right (list_all end (in_place (of j))) _ e) (omega arith) is

-- what a keyword of a node leads to ends with a step less
module _ {E : Type 0} (outcome : E → List ℕ → Outcome) (nodes : List (Node E)) (n steps : ℕ) (node : Node E) (ks : List (CompiledKeyword E)) (is : node ≡ get_or nodes n node) where
  pub keyword_below : (i : ℕ) (key : CompiledKeyword E) → body_of outcome node.body ≡ keywords (map (keyword_of outcome) ks) → i < length ks → key ≡ get_or ks i key
      → ends (schemas_of outcome nodes) steps n ≡ true → list_all (ends (schemas_of outcome nodes) (steps - 1)) (in_place (keyword_of outcome key)) ≡ true
  keyword_below i key e h at end = further steps (ends_some (schemas_of outcome nodes) steps n end) end where
    further : (s : ℕ) → 0 < s → ends (schemas_of outcome nodes) s n ≡ true
        → list_all (ends (schemas_of outcome nodes) (s - 1)) (in_place (keyword_of outcome key)) ≡ true
    further zero some end = absurd (omega arith)
    further (suc s) some end =
        let same : suc s - 1 ≡ s = omega arith in
        rw same (keyword_end (keyword_of outcome) (ends (schemas_of outcome nodes) s) ks i key
        (subst (λ b. body_ends (ends (schemas_of outcome nodes) s) b ≡ true) e
        (ends_below outcome nodes s n node (ends_inside outcome nodes (suc s) n end) is end)) h at)

  -- and so do all of them
  pub all_below : body_of outcome node.body ≡ keywords (map (keyword_of outcome) ks) → ends (schemas_of outcome nodes) steps n ≡ true
      → keywords_end (ends (schemas_of outcome nodes) (steps - 1)) (map (keyword_of outcome) ks) ≡ true
  all_below e end = further steps (ends_some (schemas_of outcome nodes) steps n end) end where
    further : (s : ℕ) → 0 < s → ends (schemas_of outcome nodes) s n ≡ true
        → keywords_end (ends (schemas_of outcome nodes) (s - 1)) (map (keyword_of outcome) ks) ≡ true
    further zero some end = absurd (omega arith)
    further (suc s) some end =
        let same : suc s - 1 ≡ s = omega arith in
        rw same (subst (λ b. body_ends (ends (schemas_of outcome nodes) s) b ≡ true) e
        (ends_below outcome nodes s n node (ends_inside outcome nodes (suc s) n end) is end))

module _ {E : Type 0} (outcome : E → List ℕ → Outcome) (nodes : List (Node E)) where
  -- the flags of bodies are those of schemas
  pub flags : (end : ℕ → Bool) (n : ℕ)
      → flag_at (map (λ node. body_ends end (body_of outcome node.body)) nodes) n ≡ schema_ends end (slice_get (schemas_of outcome nodes) n)
  flags end n =
      ap (λ o. unwrap_or o false) (slice_get-map (λ node. body_ends end (body_of outcome node.body)) nodes n) ∙ at (slice_get nodes n)
      ∙ sym (ap (schema_ends end) (slice_get-map (schema_of outcome) nodes n)) where
        at : (o : Option (Node E))
            → unwrap_or (option_map (λ node. body_ends end (body_of outcome node.body)) o) false ≡ schema_ends end (option_map (schema_of outcome) o)
        at None = refl
        at (Some node) = refl

-- flags that compare alike are the same
pub same_flags : (xs ys : List Bool) → pointwise beq xs ys ≡ true → xs ≡ ys
same_flags [] [] e = refl
same_flags [] (y ∷ ys) e = absurd (false≢true e)
same_flags (x ∷ xs) [] e = absurd (false≢true e)
same_flags (true ∷ xs) (true ∷ ys) e = ap (λ l. true ∷ l) (same_flags xs ys e)
same_flags (false ∷ xs) (false ∷ ys) e = ap (λ l. false ∷ l) (same_flags xs ys e)
same_flags (true ∷ xs) (false ∷ ys) e = absurd (false≢true e)
same_flags (false ∷ xs) (true ∷ ys) e = absurd (false≢true e)

pub no_flag : (count n : ℕ) → flag_at (replicate count false) n ≡ false
no_flag zero n = refl
no_flag (suc count) zero = refl
no_flag (suc count) (suc n) = no_flag count n

module _ (schemas : List Schema) where
  pub none_ends : (end : List Bool) (count n : ℕ) → end ≡ replicate count false → flag_at end n ≡ ends schemas 0 n
  unfolding ends
  none_ends end count n e = ap (λ l. flag_at l n) e ∙ no_flag count n

  -- the flags of one step more
  pub ends_more : (end next : List Bool) (steps : ℕ) → ((n : ℕ) → flag_at end n ≡ ends schemas steps n)
      → ((n : ℕ) → flag_at next n ≡ schema_ends (flag_at end) (slice_get schemas n))
      → (n : ℕ) → flag_at next n ≡ ends schemas (steps + 1) n
  unfolding ends
  ends_more end next steps same says n = rw add-one (says n ∙ schema_ends_alike (flag_at end) (ends schemas steps) same (slice_get schemas n))

  -- flags that a step leaves as they are stay as they are
  module _ (end : ℕ → Bool) (steps : ℕ) (same : (n : ℕ) → end n ≡ ends schemas steps n) (again : (n : ℕ) → end n ≡ schema_ends end (slice_get schemas n)) where
    stay : (more n : ℕ) → ends schemas (more + steps) n ≡ end n
    unfolding ends
    stay zero n = rw zero-add (sym (same n))
    stay (suc more) n = rw suc-add (schema_ends_alike (ends schemas (more + steps)) end (stay more) (slice_get schemas n) ∙ sym (again n))

    pub all_stay : (count n : ℕ) → steps ≤ count → end n ≡ ends schemas count n
    all_stay count n h = let e : count ≡ (count - steps) + steps = omega arith in rw e (sym (stay (count - steps) n))
