-- What the walk over an instance finds for one keyword, and which children it leaves.
use Rattle.std.specs.Prelude.{◌≡◌, ◌++◌, ◌==◌, ℕ, List, [], Bool, true, false}
use Rattle.std.specs.List.{flat_map}
use Rattle.std.specs.Str.{bytes_eq}
use Rattle.serde_json.specs.Data.{Data}
use Rattle.strkw_report.specs.declared.error.Site.{Site}
use Rattle.neldrafi_schema.specs.declared.targets.Child.{Child as FoundChild}
use Rattle.neldrafi_schema.specs.Paths.{Segment, key, place, document}
use Rattle.neldrafi_schema.specs.Errors.{Kind}
use Rattle.neldrafi_schema.specs.Schemas.{Schema, Keyword, rule}
use Rattle.neldrafi_schema.specs.Rules.{Child, Target, applied, kinds, left_kinds, on_each, part_of, spans, tested}
use Rattle.neldrafi_schema.specs.Meaning.{AreLeft, AreUnevaluated, AreVerdicts, Below, root_site}
use Rattle.neldrafi_schema.specs.Refusals.{ends}
use Rattle.neldrafi_schema.specs.machine.Compiled.{children_of}

abbrev pub Takes : (Segment → Type 0) → List FoundChild → List FoundChild → Type 0
Takes Evaluated old new = AreLeft Evaluated (children_of old) (children_of new)

-- what a keyword reports itself, and what has to report all of its errors
abbrev pub AreFindings : List Schema → Below → List Keyword → Keyword → Data → Site → List Kind
    → List Target → Type 0
AreFindings schemas below beside (rule word r bs) d site found ts = (vs : List Bool)
    × (left : List Child) × AreVerdicts below site word (tested r bs d) vs
    × AreUnevaluated schemas below beside d (part_of r) left
    × (found ≡ kinds beside word r d vs ++ left_kinds (part_of r) bs left)
    × (ts ≡ applied beside r bs d vs ++ flat_map (on_each left) bs)
AreFindings schemas below beside other d site found ts = ⊥

-- the targets of a keyword that count for what is evaluated
abbrev pub AreSpans : Below → List Keyword → Keyword → Data → List Target → Type 0
AreSpans below beside (rule word r bs) d ts = (vs : List Bool)
    × AreVerdicts below root_site word (tested r bs d) vs × (ts ≡ spans beside r bs d vs)
AreSpans below beside other d ts = ⊥

-- a target that is not inside the instance is the instance, and the ways from its schema end
abbrev pub EndsHere : List Schema → ℕ → Data → Target → Type 0
EndsHere schemas steps d t = t.inside ≡ [] → (ends schemas steps t.schema ≡ true) × (t.value ≡ d)

abbrev pub same_segment : Segment → Segment → Bool
same_segment (key a) (key b) = bytes_eq a b
same_segment (place m) (place n) = m == n
same_segment (document m) (document n) = m == n
same_segment a b = false
