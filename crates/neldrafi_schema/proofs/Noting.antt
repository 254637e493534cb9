-- Problems that are noted, one after the other.
use Rattle.std.proofs.Common.{◌≡◌, ℕ, zero, suc, ◌+◌, ◌<◌, List, [], ◌∷◌, ◌++◌, length, get_or, take, map, refl, sym, ap, ◌∙◌, subst, append_assoc, append-nil, Some, None, Option, Bool, add-one, Vec, Global}
use Rattle.std.proofs.lemmas.List.{map-append}
use Rattle.std.specs.Prelude.{option_map, slice_get}
use Rattle.std.specs.Borrow.{Bor}
use Rattle.strkw_pattern.specs.declared.engine.Outcome.{Outcome}
use Rattle.neldrafi_schema.specs.declared.node.Body.{Body as CompiledBody}
use Rattle.neldrafi_schema.specs.declared.node.Body.TheVariants as body
use Rattle.neldrafi_schema.specs.declared.node.Keyword.{Keyword as CompiledKeyword}
use Rattle.neldrafi_schema.specs.declared.node.Node.{Node}
use Rattle.neldrafi_schema.specs.declared.places.ScopedPlace.{ScopedPlace}
use Rattle.neldrafi_schema.specs.declared.problem.Problem.{Problem}
use Rattle.neldrafi_schema.specs.Paths.{Path, key}
use Rattle.neldrafi_schema.specs.Refusals.{Problem as Refused, body_endless, keyword_endless, keywords_endless, schemas_endless}
use Rattle.neldrafi_schema.specs.Schemas.{Keyword, Schema, circular_reference}
use Rattle.neldrafi_schema.specs.machine.Compiled.{body_of, keyword_of, schema_of, schemas_of}
use Rattle.neldrafi_schema.specs.machine.Places.{paths_of, place_path}
use Rattle.neldrafi_schema.specs.machine.Problems.{Notes, endless_at}
use Rattle.neldrafi_schema.proofs.Endings.{schema_there}
use Rattle.neldrafi_schema.proofs.Keeping.{noted_both, nothing_noted}
use Rattle.neldrafi_schema.proofs.Lists.{take_one}
use Rattle.neldrafi_schema.proofs.Tables.{path_there, some_path}

keywords_both : (end : ℕ → Bool) (path : Path) (ks others : List Keyword)
    → keywords_endless end path (ks ++ others) ≡ keywords_endless end path ks ++ keywords_endless end path others
keywords_both end path [] others = refl
keywords_both end path (k ∷ ks) others =
    ap (λ l. keyword_endless end path k ++ l) (keywords_both end path ks others)
    ∙ sym (append_assoc (keyword_endless end path k) (keywords_endless end path ks) (keywords_endless end path others))

-- the problems of one keyword more
pub keyword_noted : {K : Type 0} (of : K → Keyword) (end : ℕ → Bool) (path : Path) (ks : List K) (i : ℕ) (k : K) (old mid new : Option Problem)
    → i < length ks → k ≡ get_or ks i k
    → Notes (keywords_endless end path (map of (take i ks))) old mid → Notes (keyword_endless end path (of k)) mid new
    → Notes (keywords_endless end path (map of (take (i + 1) ks))) old new
keyword_noted of end path ks i k old mid new h at before this =
    let more : keywords_endless end path (map of (take (i + 1) ks)) ≡ keywords_endless end path (map of (take i ks)) ++ keyword_endless end path (of k) =
    ap (λ l. keywords_endless end path (map of l)) (take_one ks i k h at) ∙ ap (keywords_endless end path) (map-append of (take i ks) (k ∷ []))
    ∙ keywords_both end path (map of (take i ks)) (of k ∷ []) ∙ ap (λ l. keywords_endless end path (map of (take i ks)) ++ l)
    (append-nil (keyword_endless end path (of k))) in
    subst (λ l. Notes l old new) (sym more) (noted_both _ _ old mid new before this)

schemas_more : (end : ℕ → Bool) (paths : List Path) (ts : List Schema) (i : ℕ) (path : Path) (t : Schema) → slice_get paths i ≡ Some path → slice_get ts i ≡ Some t
    → schemas_endless end (take (suc i) paths) (take (suc i) ts) ≡ schemas_endless end (take i paths) (take i ts) ++ body_endless end path t.body
schemas_more end [] ts i path t e f = cc
schemas_more end (p ∷ paths) [] i path t e f = cc
schemas_more end (p ∷ paths) (s ∷ ts) zero path t e f =
    let first : p ≡ path = cc in
    let same : s ≡ t = cc in
    rw (first, same) (append-nil (body_endless end path t.body))
schemas_more end (p ∷ paths) (s ∷ ts) (suc i) path t e f =
    ap (λ l. body_endless end p s.body ++ l) (schemas_more end paths ts i path t e f)
    ∙ sym (append_assoc (body_endless end p s.body) (schemas_endless end (take i paths) (take i ts)) (body_endless end path t.body))

-- those of one schema more
pub schema_noted : (end : ℕ → Bool) (paths : List Path) (ts : List Schema) (i : ℕ) (path : Path) (t : Schema) (old mid new : Option Problem)
    → slice_get paths i ≡ Some path → slice_get ts i ≡ Some t
    → Notes (schemas_endless end (take i paths) (take i ts)) old mid → Notes (body_endless end path t.body) mid new
    → Notes (schemas_endless end (take (i + 1) paths) (take (i + 1) ts)) old new
schema_noted end paths ts i path t old mid new e f before this =
    rw add-one (subst (λ l. Notes l old new) (sym (schemas_more end paths ts i path t e f)) (noted_both _ _ old mid new before this))

-- a body of no keywords has none
pub no_keywords : {E : Type 0} (outcome : E → List ℕ → Outcome) (end : ℕ → Bool) (path : Path) (b : CompiledBody E)
    → ((ks : _) → b ≡ body.Keywords ks → ⊥) → body_endless end path (body_of outcome b) ≡ []
no_keywords outcome end path body.Always none = refl
no_keywords outcome end path body.Never none = refl
no_keywords outcome end path (body.Keywords ks) none = absurd (none ks refl)

-- what a test of a keyword says
module _ (path : Path) (all : List Refused) (o : Option (Bor (List ℕ))) (says : all ≡ endless_at path (option_map (λ name. name.now) o)) (old new : Option Problem) where
  pub it_is_noted : (name : Bor (List ℕ)) (mid : Option Problem) (at : Path) → o ≡ Some name → at ≡ path ++ key name.now ∷ [] → new ≡ mid
      → Notes ((at, circular_reference) ∷ []) old mid → Notes all old new
  it_is_noted name mid at some there is notes = rw (says, some, is) (subst (λ p. Notes ((p, circular_reference) ∷ []) old mid) there notes)

  pub none_is_noted : ((name : Bor (List ℕ)) → o ≡ Some name → ⊥) → new ≡ old → Notes all old new
  none_is_noted none is = by o refl where
    by : (p : Option (Bor (List ℕ))) → o ≡ p → Notes all old new
    by None e = rw (says, e, is) (nothing_noted old)
    by (Some name) e = absurd (none name e)

-- those of one node more
module _ {E : Type 0} (outcome : E → List ℕ → Outcome) (end : ℕ → Bool) (nodes : List (Node E)) (places : List ScopedPlace) (i : ℕ) (node : Node E) (is : node ≡ get_or nodes i node)
    (h : i < length nodes) (inside : i < length places) (old mid new : Option Problem)
    (before : Notes (schemas_endless end (take i (paths_of places)) (take i (schemas_of outcome nodes))) old mid) where
  one_node : (path : Path) → slice_get (paths_of places) i ≡ Some path → Notes (body_endless end path (body_of outcome node.body)) mid new
      → Notes (schemas_endless end (take (i + 1) (paths_of places)) (take (i + 1) (schemas_of outcome nodes))) old new
  one_node path at =
      schema_noted end (paths_of places) (schemas_of outcome nodes) i path (schema_of outcome node) old mid new at (schema_there outcome nodes i node h is) before

  pub node_noted : (place : ScopedPlace) (path : Path) (ks : Vec (CompiledKeyword E) Global) (items : List (CompiledKeyword E)) (noted : Option Problem)
      → place ≡ get_or places i place → path ≡ place_path place.place
      → (get_or nodes i node).body ≡ body.Keywords ks → items ≡ ks.items → new ≡ noted → Notes (keywords_endless end path (map (keyword_of outcome) items)) mid noted
      → Notes (schemas_endless end (take (i + 1) (paths_of places)) (take (i + 1) (schemas_of outcome nodes))) old new
  node_noted place path ks items noted at same has read are notes =
      let says : body_endless end path (body_of outcome node.body) ≡ keywords_endless end path (map (keyword_of outcome) items) =
      ap (λ b. body_endless end path (body_of outcome b)) (ap (λ t. t.body) is ∙ has)
      ∙ ap (λ l. keywords_endless end path (map (keyword_of outcome) l)) (sym read) in
      one_node path (path_there places i place inside at ∙ ap Some (sym same)) (rw (says, are) notes)

  pub node_ends : ((ks : Vec (CompiledKeyword E) Global) → (get_or nodes i node).body ≡ body.Keywords ks → ⊥) → new ≡ mid
      → Notes (schemas_endless end (take (i + 1) (paths_of places)) (take (i + 1) (schemas_of outcome nodes))) old new
  node_ends none are =
      let path = get_or (paths_of places) i [] in
      let says : body_endless end path (body_of outcome node.body) ≡ [] =
      ap (λ t. body_endless end path (body_of outcome t.body)) is ∙ no_keywords outcome end path (get_or nodes i node).body none in
      one_node path (some_path places i inside) (rw (says, are) (nothing_noted mid))
