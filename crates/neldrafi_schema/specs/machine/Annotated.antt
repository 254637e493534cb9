-- Annotations as the code has them.
use Rattle.std.specs.Prelude.{◌≡◌, ◌++◌, List, Bool, map, string_bytes}
use Rattle.std.specs.List.{flat_map}
use Rattle.serde_json.specs.Data.{Data}
use Rattle.serde_json.specs.View.{view}
use Rattle.strkw_report.specs.declared.error.Site.{Site}
use Rattle.neldrafi_schema.specs.declared.annotation.Annotation.{Annotation as FoundAnnotation}
use Rattle.neldrafi_schema.specs.Annotations.{Annotation, annotated}
use Rattle.neldrafi_schema.specs.Meaning.{AreUnevaluated, AreVerdicts, Below}
use Rattle.neldrafi_schema.specs.Rules.{Child, Target, on_each, part_of, tested}
use Rattle.neldrafi_schema.specs.Schemas.{Schema, Keyword, rule}
use Rattle.neldrafi_schema.specs.machine.Found.{Grows}

abbrev pub annotation_seen : FoundAnnotation → Annotation
annotation_seen a = record {
  keyword = string_bytes a.keyword;
  value = view a.value;
  schema_path = a.schema_path;
  evaluation_path = a.evaluation_path;
  instance_path = a.instance_path;
  absolute = string_bytes a.absolute;
}

abbrev pub annotations_of : List FoundAnnotation → List Annotation
annotations_of found = map annotation_seen found

-- new is old, and behind it annotations that are these
abbrev pub Annotated : (List Annotation → Type 0) → List FoundAnnotation → List FoundAnnotation → Type 0
Annotated = Grows annotation_seen

-- the values of which the schemas of a keyword annotate
abbrev pub AreAnnotated : List Schema → Below → List Keyword → Keyword → Data → Site → List Target → Type 0
AreAnnotated schemas below beside (rule word r bs) d site ts = (vs : List Bool) × (left : List Child)
    × AreVerdicts below site word (tested r bs d) vs
    × AreUnevaluated schemas below beside d (part_of r) left
    × (ts ≡ annotated beside r bs d vs ++ flat_map (on_each left) bs)
AreAnnotated schemas below beside other d site ts = ⊥
