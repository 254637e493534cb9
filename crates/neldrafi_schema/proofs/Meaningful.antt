-- What has no meaning leads unresolved_reference: ways end with it as they do without it.
use Rattle.std.proofs.Common.{◌≡◌, ℕ, zero, suc, List, [], ◌∷◌, ◌++◌, ◌≤◌, length, map, arith, refl, ap, ◌∙◌, Bool, true, false, Some, None, Option}
use Rattle.std.proofs.Math.Path.{ap₂}
use Rattle.std.proofs.lemmas.Option.{slice_get-map}
use Rattle.std.specs.Prelude.{◌&&◌, option_map, slice_get, if◌then◌else◌}
use Rattle.std.specs.List.{list_all}
use Rattle.neldrafi_schema.specs.Paths.{Path}
use Rattle.neldrafi_schema.specs.Refusals.{Problem, schemas_in, ends, schema_ends, body_ends, keywords_end, in_place, keyword_endless, keywords_endless, body_endless, schemas_endless, problems, body_problems, keywords_problems}
use Rattle.neldrafi_schema.specs.Schemas.{circular_reference, Keyword, rule, string_keyword, malformed, Body, always, never, neither, keywords, Schema}
use Rattle.neldrafi_schema.specs.machine.Said.{meaningful, meaningful_body}

abbrev pub meaningful_schema : Schema → Schema
meaningful_schema t = record { header = t.header; body = meaningful_body t.body }

-- ---- ways that end

keywords_end_same : (end : ℕ → Bool) (ks : List Keyword) → keywords_end end (meaningful ks) ≡ keywords_end end ks
keywords_end_same end [] = refl
keywords_end_same end (rule w r bs ∷ ks) = ap (λ b. list_all end (in_place (rule w r bs)) && b) (keywords_end_same end ks)
keywords_end_same end (string_keyword word asserted ∷ ks) = keywords_end_same end ks
keywords_end_same end (malformed below why ∷ ks) = keywords_end_same end ks

body_ends_same : (end : ℕ → Bool) (body : Body) → body_ends end (meaningful_body body) ≡ body_ends end body
body_ends_same end always = refl
body_ends_same end never = refl
body_ends_same end neither = refl
body_ends_same end (keywords ks) = keywords_end_same end ks

schema_ends_same : (end : ℕ → Bool) (t : Option Schema) → schema_ends end (option_map meaningful_schema t) ≡ schema_ends end t
schema_ends_same end None = refl
schema_ends_same end (Some t) = body_ends_same end t.body

-- the same by two tests that agree
list_all_alike : (f g : ℕ → Bool) → ((n : ℕ) → f n ≡ g n) → (ns : List ℕ) → list_all f ns ≡ list_all g ns
list_all_alike f g same [] = refl
list_all_alike f g same (n ∷ ns) = ap₂ (λ a b. a && b) (same n) (list_all_alike f g same ns)

keywords_end_alike : (f g : ℕ → Bool) → ((n : ℕ) → f n ≡ g n) → (ks : List Keyword) → keywords_end f ks ≡ keywords_end g ks
keywords_end_alike f g same [] = refl
keywords_end_alike f g same (k ∷ ks) = ap₂ (λ a b. a && b) (list_all_alike f g same (in_place k)) (keywords_end_alike f g same ks)

pub schema_ends_alike : (f g : ℕ → Bool) → ((n : ℕ) → f n ≡ g n) → (t : Option Schema) → schema_ends f t ≡ schema_ends g t
schema_ends_alike f g same None = refl
schema_ends_alike f g same (Some t) = go t.body where
  go : (body : Body) → body_ends f body ≡ body_ends g body
  go always = refl
  go never = refl
  go neither = refl
  go (keywords ks) = keywords_end_alike f g same ks

pub ends_same : (ts : List Schema) (steps n : ℕ) → ends (map meaningful_schema ts) steps n ≡ ends ts steps n
unfolding ends
ends_same ts zero n = refl
ends_same ts (suc steps) n =
    ap (schema_ends (ends (map meaningful_schema ts) steps)) (slice_get-map meaningful_schema ts n)
    ∙ schema_ends_same (ends (map meaningful_schema ts) steps) (slice_get ts n)
    ∙ schema_ends_alike (ends (map meaningful_schema ts) steps) (ends ts steps) (ends_same ts steps) (slice_get ts n)

-- ---- references that come to no end

keywords_endless_same : (end : ℕ → Bool) (path : Path) (ks : List Keyword) → keywords_endless end path (meaningful ks) ≡ keywords_endless end path ks
keywords_endless_same end path [] = refl
keywords_endless_same end path (rule w r bs ∷ ks) = ap (λ l. keyword_endless end path (rule w r bs) ++ l) (keywords_endless_same end path ks)
keywords_endless_same end path (string_keyword word asserted ∷ ks) = keywords_endless_same end path ks
keywords_endless_same end path (malformed below why ∷ ks) = keywords_endless_same end path ks

body_endless_same : (end : ℕ → Bool) (path : Path) (body : Body) → body_endless end path (meaningful_body body) ≡ body_endless end path body
body_endless_same end path always = refl
body_endless_same end path never = refl
body_endless_same end path neither = refl
body_endless_same end path (keywords ks) = keywords_endless_same end path ks

pub endless_same : (end : ℕ → Bool) (paths : List Path) (ts : List Schema) → schemas_endless end paths (map meaningful_schema ts) ≡ schemas_endless end paths ts
endless_same end [] ts = refl
endless_same end (path ∷ paths) [] = refl
endless_same end (path ∷ paths) (t ∷ ts) = ap₂ (λ a b. a ++ b) (body_endless_same end path t.body) (endless_same end paths ts)

keywords_endless_alike : (f g : ℕ → Bool) → ((n : ℕ) → f n ≡ g n) → (path : Path) (ks : List Keyword) → keywords_endless f path ks ≡ keywords_endless g path ks
keywords_endless_alike f g same path [] = refl
keywords_endless_alike f g same path (rule w r bs ∷ ks) = rw (list_all_alike f g same (schemas_in bs), keywords_endless_alike f g same path ks) refl
keywords_endless_alike f g same path (string_keyword word asserted ∷ ks) = keywords_endless_alike f g same path ks
keywords_endless_alike f g same path (malformed below why ∷ ks) = keywords_endless_alike f g same path ks

body_endless_alike : (f g : ℕ → Bool) → ((n : ℕ) → f n ≡ g n) → (path : Path) (body : Body) → body_endless f path body ≡ body_endless g path body
body_endless_alike f g same path always = refl
body_endless_alike f g same path never = refl
body_endless_alike f g same path neither = refl
body_endless_alike f g same path (keywords ks) = keywords_endless_alike f g same path ks

pub endless_alike : (f g : ℕ → Bool) → ((n : ℕ) → f n ≡ g n) → (paths : List Path) (ts : List Schema) → schemas_endless f paths ts ≡ schemas_endless g paths ts
endless_alike f g same [] ts = refl
endless_alike f g same (path ∷ paths) [] = refl
endless_alike f g same (path ∷ paths) (t ∷ ts) = ap₂ (λ a b. a ++ b) (body_endless_alike f g same path t.body) (endless_alike f g same paths ts)

-- ---- where nothing is refused

pub nil_first : {A : Type 0} (xs ys : List A) → xs ++ ys ≡ [] → xs ≡ []
nil_first [] ys e = refl
nil_first (x ∷ xs) ys e = cc

pub nil_second : {A : Type 0} (xs ys : List A) → xs ++ ys ≡ [] → ys ≡ []
nil_second [] ys e = e
nil_second (x ∷ xs) ys e = cc

-- keywords with no problem are those that have a meaning
meaningful_all : (path : Path) (ks : List Keyword) → keywords_problems path ks ≡ [] → meaningful ks ≡ ks
meaningful_all path [] e = refl
meaningful_all path (rule w r bs ∷ ks) e = ap (λ l. rule w r bs ∷ l) (meaningful_all path ks e)
meaningful_all path (string_keyword word asserted ∷ ks) e = ap (λ l. string_keyword word asserted ∷ l) (meaningful_all path ks e)
meaningful_all path (malformed below why ∷ ks) e = cc

body_all : (path : Path) (body : Body) → body_problems path body ≡ [] → meaningful_body body ≡ body
body_all path always e = refl
body_all path never e = refl
body_all path neither e = cc
body_all path (keywords ks) e = ap keywords (meaningful_all path ks e)

pub schemas_all : (paths : List Path) (ts : List Schema) → length ts ≤ length paths → problems paths ts ≡ [] → map meaningful_schema ts ≡ ts
schemas_all [] [] h e = refl
schemas_all [] (t ∷ ts) h e = absurd (omega arith)
schemas_all (path ∷ paths) [] h e = refl
schemas_all (path ∷ paths) (t ∷ ts) h e =
    let this : meaningful_schema t ≡ t =
    ap (λ b. record { header = t.header; body = b }) (body_all path t.body (nil_first (body_problems path t.body) (problems paths ts) e)) in
    ap₂ (λ x xs. x ∷ xs) this (schemas_all paths ts (omega arith) (nil_second (body_problems path t.body) (problems paths ts) e))

abbrev pub at : Path → Problem
at path = (path, circular_reference)

pub flag : (b : Bool) (path : Path) → (if b then [] else at path ∷ []) ≡ [] → b ≡ true
flag true path e = refl
flag false path e = cc
