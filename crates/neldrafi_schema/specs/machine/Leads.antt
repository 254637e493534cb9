-- The schemas to which keywords lead, as they are found in a document.
use Rattle.std.specs.Prelude.{◌≡◌, ◌&&◌, ◌==◌, ℕ, None, Option, Some, Bool, true, false, if◌then◌else◌}
use Rattle.std.specs.List.{AllByRecursion}
use Rattle.serde_json.specs.Data.{Data, object}
use Rattle.serde_json.specs.Find.{as_bool}
use Rattle.strkw_report.specs.declared.draft.Draft.{Draft}
use Rattle.neldrafi_schema.specs.Drafts.{is_draft_4}
use Rattle.serde_json.specs.View.{members_view, view}
use Rattle.neldrafi_schema.specs.declared.known.Known.{Known}
use Rattle.neldrafi_schema.specs.declared.known.Known.TheVariants as known
use Rattle.neldrafi_schema.specs.declared.senses.Member.{Member}
use Rattle.neldrafi_schema.specs.declared.senses.Sense.{Sense}
use Rattle.neldrafi_schema.specs.declared.senses.Sense.TheVariants as sense
use Rattle.neldrafi_schema.specs.Documents.{Documents, value_in}
use Rattle.neldrafi_schema.specs.machine.Compiled.{path_of}
use Rattle.neldrafi_schema.specs.machine.Places.{IsPlace}

-- the object and the value are the document's at their paths
pub record IsThere (documents : Documents) (m : Member) : Type 0 where
  pub object : value_in documents (path_of m.path.now)
      ≡ Some (object (members_view m.object.now.entries))
  pub value : value_in documents (path_of m.at.now) ≡ Some (view m.value.now)

-- and so is each schema to which a keyword leads
abbrev pub AreLeads : {E : Type 0} → Documents → Sense E → Type 0
AreLeads documents (sense.Says r leads) =
    AllByRecursion (λ l. IsPlace documents l.place) leads.items
AreLeads documents other = Unit {0}

-- a boolean that is a schema
abbrev pub boolean_of : Draft → Data → Option Bool
boolean_of draft d = if is_draft_4 draft then None else as_bool d

-- some of so many are needed, and there are none
abbrev pub is_lacking : Bool → ℕ → Bool
is_lacking needed count = needed && (count == 0)

-- a keyword without schemas
abbrev pub is_assertion : Known → Bool
is_assertion known.Types = true
is_assertion known.Enumeration = true
is_assertion known.Constant = true
is_assertion known.MultipleOf = true
is_assertion (known.Limited l) = true
is_assertion (known.Sized s) = true
is_assertion known.UniqueItems = true
is_assertion known.Required = true
is_assertion known.DependentRequired = true
is_assertion known.ContainsCount = true
is_assertion known.Description = true
is_assertion known.Default = true
is_assertion known.Examples = true
is_assertion known.Comment = true
is_assertion known.Access = true
is_assertion known.Deprecated = true
is_assertion known.Content = true
is_assertion known.Vocabulary = true
is_assertion other = false
