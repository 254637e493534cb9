-- Which annotations an instance has by a list of schemas (Core 2020-12, section 7.7.1).
use Rattle.std.specs.Prelude.{◌≡◌, ℕ, zero, suc, List, [], ◌∷◌, ◌++◌, map, Bool, true, false, not, ◌||◌}
use Rattle.std.specs.Prelude.{MatchOption, if◌then◌else◌, is_some, slice_get}
use Rattle.std.specs.List.{flat_map, filter}
use Rattle.serde_json.specs.Data.{Data}
use Rattle.serde_json.specs.Find.{as_str}
use Rattle.strkw_report.specs.Paths.{path_below}
use Rattle.strkw_report.specs.declared.error.Site.{Site}
use Rattle.strkw_keywords.specs.Meanings.{Lists}
use Rattle.neldrafi_schema.specs.Errors.{Error}
use Rattle.neldrafi_schema.specs.Meaning.{Below, Noted, AreVerdicts, AreUnevaluated, EachReports, Reports}
use Rattle.neldrafi_schema.specs.Meaning.{absolute_below, enough, root_site}
use Rattle.neldrafi_schema.specs.Rules.{Child, Target, on_each, part_of, reached, tested}
use Rattle.neldrafi_schema.specs.Schemas.{Note, Header, Keyword, rule, Rule, negation, member_names}
use Rattle.neldrafi_schema.specs.Schemas.{Branch, Body, keywords, Schema}

-- what a keyword says of an instance, and where all three are, as of an error
pub record Annotation : Type 0 where
  pub keyword : List ℕ
  pub value : Data
  pub schema_path : List ℕ
  pub evaluation_path : List ℕ
  pub instance_path : List ℕ
  pub absolute : List ℕ

-- ---- of a schema object alone

-- whether an annotation is of an instance: that of `format` and of content is of strings
abbrev pub applies : Data → Note → Bool
applies d note = not note.of_texts || is_some (as_str d)

abbrev pub annotation_of : Header → Site → Note → Annotation
annotation_of header site note = record {
  keyword = note.keyword;
  value = note.value;
  schema_path = path_below header.location note.keyword;
  evaluation_path = path_below site.evaluation note.keyword;
  instance_path = site.instance;
  absolute = absolute_below header.absolute note.keyword;
}

abbrev pub own_annotations : Header → Data → Site → List Annotation
own_annotations header d site = map (annotation_of header site) (filter (applies d) header.notes)

-- ---- of schemas by number

-- the schemas of `not` and `propertyNames` annotate nothing of the instance
abbrev pub annotates_nothing : Rule → Bool
annotates_nothing (negation schema) = true
annotates_nothing member_names = true
annotates_nothing other = false

-- the values of which a keyword's schemas annotate, by their verdicts: those that are valid
abbrev pub annotated : List Keyword → Rule → List Branch → Data → List Bool → List Target
annotated beside r bs d vs = if annotates_nothing r then [] else reached beside r bs d vs

-- what a number, an instance and its place have for annotations, with fewer steps
abbrev pub Annotating : Type 1
Annotating = Noted Annotation

abbrev pub KeywordAnnotates : List Schema → Below → Annotating → List Keyword → Keyword → Data → Site
    → List Annotation → Type 0
KeywordAnnotates schemas below inner beside (rule word r bs) d site found = (vs : List Bool)
    × (left : List Child) × AreVerdicts below site word (tested r bs d) vs
    × AreUnevaluated schemas below beside d (part_of r) left
    × EachReports inner site word (annotated beside r bs d vs ++ flat_map (on_each left) bs) found
KeywordAnnotates schemas below inner beside other d site found = found ≡ []

-- keyword by keyword
abbrev pub KeywordsAnnotate : List Schema → Below → Annotating → List Keyword → List Keyword → Data → Site
    → List Annotation → Type 0
KeywordsAnnotate schemas below inner beside [] d site found = found ≡ []
KeywordsAnnotate schemas below inner beside (k ∷ ks) d site found = (first : List Annotation)
    × (later : List Annotation) × KeywordAnnotates schemas below inner beside k d site first
    × KeywordsAnnotate schemas below inner beside ks d site later × (found ≡ first ++ later)

-- those of the schema object itself come before those of its subschemas
abbrev pub SchemaAnnotates : List Schema → Below → Annotating → Header → Body → Data → Site
    → List Annotation → Type 0
SchemaAnnotates schemas below inner header (keywords ks) d site found = (later : List Annotation)
    × KeywordsAnnotate schemas below inner ks ks d site later
    × (found ≡ own_annotations header d site ++ later)
SchemaAnnotates schemas below inner header other d site found = found ≡ []

-- the annotations of an instance that is valid by the schema of a number, within so many steps
unfoldable pub Annotates : List Schema → Lists → ℕ → Annotating
Annotates schemas lists zero n d site found = ⊥
Annotates schemas lists (suc steps) n d site found = MatchOption (slice_get schemas n) ⊥
    (λ s. SchemaAnnotates schemas (Reports schemas lists steps) (Annotates schemas lists steps)
    s.header s.body d site found)

-- the annotations of an instance that has these errors: one that is not valid has none
abbrev pub HasAnnotations : List Schema → Lists → Data → List Error → List Annotation → Type 0
HasAnnotations schemas lists d [] found = Annotates schemas lists (enough schemas d) 0 d root_site found
HasAnnotations schemas lists d (e ∷ es) found = found ≡ []
