-- Which errors an instance has by a list of schemas.
use Rattle.std.specs.Prelude.{◌≡◌, ◌↔◌, ◌⊎◌, ℕ, zero, suc, ◌*◌, List, [], ◌∷◌, ◌++◌, map, Bool, true, Option, Some, None}
use Rattle.std.specs.Prelude.{MatchOption, IsTrue, codes, length, slice_get}
use Rattle.std.specs.List.{flat_map}
use Rattle.serde_json.specs.Data.{Data, depth}
use Rattle.serde_json.specs.Find.{as_str}
use Rattle.strkw_report.specs.Kinds.{Report}
use Rattle.strkw_report.specs.Paths.{path_below}
use Rattle.strkw_report.specs.declared.error.Site.{Site}
use Rattle.strkw_keywords.specs.Errors.{Assertion, NodeReports}
use Rattle.strkw_keywords.specs.Meanings.{Lists}
use Rattle.neldrafi_schema.specs.Paths.{Segment, location_of}
use Rattle.neldrafi_schema.specs.Errors.{Kind, false_schema, Error, found, of_text}
use Rattle.neldrafi_schema.specs.Schemas.{Keyword, rule, string_keyword, malformed, Rule, Branch}
use Rattle.neldrafi_schema.specs.declared.node.Part.{Part}
use Rattle.neldrafi_schema.specs.Schemas.{Body, always, never, keywords, neither, Header, Schema}
use Rattle.neldrafi_schema.specs.Rules.{Target, tested, applied, kinds, spans}
use Rattle.neldrafi_schema.specs.Rules.{Child, children, is_all_of, part_of, on_each, left_kinds}

-- ---- places

abbrev pub root_site : Site
root_site = record { evaluation = []; instance = [] }

-- where the schema and the value of a target stand
abbrev pub site_of : Site → List ℕ → Target → Site
site_of site word t = record {
  evaluation = path_below site.evaluation word ++ location_of t.way;
  instance = site.instance ++ location_of t.inside;
}

-- the absolute location of a schema's keyword: no name of a keyword has characters that are escaped
abbrev pub absolute_below : List ℕ → List ℕ → List ℕ
absolute_below absolute word = absolute ++ codes "/" ++ word

-- the error of a keyword of a schema
abbrev pub error_of : Header → Site → List ℕ → Data → Kind → Error
error_of header site word instance kind = found (record {
  kind = kind;
  instance = instance;
  schema_path = path_below header.location word;
  evaluation_path = path_below site.evaluation word;
  instance_path = site.instance;
  absolute = absolute_below header.absolute word;
})

-- the error of the schema `false`, which has no keyword
abbrev pub error_of_false : Header → Site → Data → Error
error_of_false header site instance = found (record {
  kind = false_schema;
  instance = instance;
  schema_path = header.location;
  evaluation_path = site.evaluation;
  instance_path = site.instance;
  absolute = header.absolute;
})

-- ---- keywords

-- what a number, an instance and its place have, with fewer steps: for errors, or for annotations
abbrev pub Noted : Type 0 → Type 1
Noted A = ℕ → Data → Site → List A → Type 0

abbrev pub Below : Type 1
Below = Noted Error

-- whether each target has no errors
abbrev pub AreVerdicts : Below → Site → List ℕ → List Target → List Bool → Type 0
AreVerdicts below site word [] vs = vs ≡ []
AreVerdicts below site word (t ∷ ts) vs = (valid : Bool) × (later : List Bool)
    × (IsTrue valid ↔ below t.schema t.value (site_of site word t) [])
    × AreVerdicts below site word ts later × (vs ≡ valid ∷ later)

-- ---- what is evaluated of an instance

abbrev pub OneOf : {A : Type 0} → (A → Type 0) → List A → Type 0
OneOf P [] = ⊥
OneOf P (a ∷ others) = P a ⊎ OneOf P others

-- whether a schema evaluates a child of a value
abbrev pub Evaluating : Type 1
Evaluating = ℕ → Data → Type 0

-- by a target a child is: it is the child, or it is the instance, of which the schema evaluates it
abbrev pub TargetEvaluates : Evaluating → Segment → Target → Type 0
TargetEvaluates inner s t =
    (t.inside ≡ s ∷ []) ⊎ ((t.inside ≡ []) × inner t.schema t.value)

abbrev pub KeywordEvaluates : Below → Evaluating → List Keyword → Data → Segment → Keyword → Type 0
KeywordEvaluates below inner beside d s (rule word r bs) = (is_all_of s (part_of r) ≡ true)
    ⊎ ((vs : List Bool) × AreVerdicts below root_site word (tested r bs d) vs
    × OneOf (TargetEvaluates inner s) (spans beside r bs d vs))
KeywordEvaluates below inner beside d s other = ⊥

abbrev pub BodyEvaluates : Below → Evaluating → Data → Segment → Body → Type 0
BodyEvaluates below inner d s (keywords ks) =
    OneOf (KeywordEvaluates below inner ks d s) ks
BodyEvaluates below inner d s other = ⊥

-- the schema of a number evaluates a child, within so many steps that do not enter the instance
unfoldable pub Evaluates : List Schema → Below → Segment → ℕ → Evaluating
Evaluates schemas below s zero n d = ⊥
Evaluates schemas below s (suc steps) n d = MatchOption (slice_get schemas n) ⊥
    (λ t. BodyEvaluates below (Evaluates schemas below s steps) d s t.body)

-- the children that are left
abbrev pub AreLeft : (Segment → Type 0) → List Child → List Child → Type 0
AreLeft Evaluated [] left = left ≡ []
AreLeft Evaluated (c ∷ cs) left = (later : List Child) × AreLeft Evaluated cs later
    × ((Evaluated c.0 × (left ≡ later)) ⊎ ((Evaluated c.0 → ⊥) × (left ≡ c ∷ later)))

-- a keyword of the schema evaluates a child; `unevaluatedItems` and `unevaluatedProperties` do not
-- count
abbrev pub BesideEvaluates : List Schema → Below → List Keyword → Data → Segment → Keyword → Type 0
BesideEvaluates schemas below beside d s (rule word r bs) = (part_of r ≡ None) × KeywordEvaluates
    below (Evaluates schemas below s (length schemas)) beside d s (rule word r bs)
BesideEvaluates schemas below beside d s other = ⊥

-- the children that the keywords beside leave to a rule that speaks of them
abbrev pub AreUnevaluated : List Schema → Below → List Keyword → Data → Option Part → List Child
    → Type 0
AreUnevaluated schemas below beside d None left = left ≡ []
AreUnevaluated schemas below beside d (Some part) left =
    AreLeft (λ s. OneOf (BesideEvaluates schemas below beside d s) beside) (children part d) left

-- ---- errors

-- target by target
abbrev pub EachReports : {A : Type 0} → Noted A → Site → List ℕ → List Target → List A → Type 0
EachReports below site word [] es = es ≡ []
EachReports {A} below site word (t ∷ ts) es = (first : List A) × (later : List A)
    × below t.schema t.value (site_of site word t) first
    × EachReports below site word ts later × (es ≡ first ++ later)

-- the keyword's own errors, and behind them those of the schemas to which it leads
abbrev pub RuleReports : List Schema → Below → Header → List Keyword → List ℕ → Rule → List Branch
    → Data → Site → List Error → Type 0
RuleReports schemas below header beside word r bs d site es = (vs : List Bool)
    × (left : List Child) × (later : List Error)
    × AreVerdicts below site word (tested r bs d) vs
    × AreUnevaluated schemas below beside d (part_of r) left
    × EachReports below site word (applied beside r bs d vs ++ flat_map (on_each left) bs) later
    × (es ≡ map (error_of header site word d)
    (kinds beside word r d vs ++ left_kinds (part_of r) bs left) ++ later)

-- of a string keyword, as `strkw_keywords` reports them
abbrev pub TextReports : Lists → Header → List ℕ → List Assertion → Option (List ℕ) → Site
    → List Error → Type 0
TextReports lists header word asserted text site es = (rs : List Report)
    × NodeReports asserted lists site text rs × (es ≡ map (of_text (absolute_below header.absolute word)) rs)

abbrev pub KeywordReports : List Schema → Below → Lists → Header → List Keyword → Keyword → Data → Site
    → List Error → Type 0
KeywordReports schemas below lists header beside (rule word r bs) d site es =
    RuleReports schemas below header beside word r bs d site es
KeywordReports schemas below lists header beside (string_keyword word asserted) d site es =
    TextReports lists header word asserted (as_str d) site es
KeywordReports schemas below lists header beside (malformed path why) d site es = ⊥

-- keyword by keyword
abbrev pub KeywordsReport : List Schema → Below → Lists → Header → List Keyword → List Keyword → Data → Site
    → List Error → Type 0
KeywordsReport schemas below lists header beside [] d site es = es ≡ []
KeywordsReport schemas below lists header beside (k ∷ ks) d site es = (first : List Error)
    × (later : List Error) × KeywordReports schemas below lists header beside k d site first
    × KeywordsReport schemas below lists header beside ks d site later × (es ≡ first ++ later)

abbrev pub SchemaReports : List Schema → Below → Lists → Header → Body → Data → Site → List Error → Type 0
SchemaReports schemas below lists header always d site es = es ≡ []
SchemaReports schemas below lists header never d site es = es ≡ error_of_false header site d ∷ []
SchemaReports schemas below lists header (keywords ks) d site es =
    KeywordsReport schemas below lists header ks ks d site es
SchemaReports schemas below lists header neither d site es = ⊥

-- These are the errors of an instance by a schema of the list, within so many steps from schema to
-- schema.
unfoldable pub Reports : List Schema → Lists → ℕ → Below
Reports schemas lists zero n d site es = ⊥
Reports schemas lists (suc steps) n d site es = MatchOption (slice_get schemas n) ⊥
    (λ s. SchemaReports schemas (Reports schemas lists steps) lists s.header s.body d site es)

-- More steps are never taken: a way that does not enter the instance passes each schema once.
abbrev pub enough : List Schema → Data → ℕ
enough schemas d = suc (length schemas) * suc (depth d)

-- these are the errors of an instance by the document
abbrev pub HasErrors : List Schema → Lists → Data → List Error → Type 0
HasErrors schemas lists d es = Reports schemas lists (enough schemas d) 0 d root_site es
