-- Where the schema at a path is, and what its keywords annotate (Validation 2020-12, sections 7 to 9).
use Rattle.std.specs.Prelude.{ℕ, List, [], ◌∷◌, ◌++◌, Bool, not, ◌&&◌, ◌||◌, codes}
use Rattle.std.specs.Prelude.{if◌then◌else◌, is_some, option_map, unwrap_or}
use Rattle.std.specs.Str.{bytes_eq}
use Rattle.serde_json.specs.Data.{Data, object}
use Rattle.serde_json.specs.Data.{Members, no_members, member}
use Rattle.serde_json.specs.Find.{get_member}
use Rattle.strkw_report.specs.declared.draft.Draft.{Draft}
use Rattle.neldrafi_schema.specs.declared.known.Known.{Known}
use Rattle.neldrafi_schema.specs.Documents.{Documents, value_in}
use Rattle.neldrafi_schema.specs.Drafts.{known_named, is_annotation, is_of_texts}
use Rattle.neldrafi_schema.specs.Locations.{absolute_among}
use Rattle.neldrafi_schema.specs.Paths.{Path, location_of}
use Rattle.neldrafi_schema.specs.Schemas.{Note, Header}

-- `contentSchema` is ignored without `contentMediaType` (8.5)
abbrev pub is_heeded : Members → List ℕ → Bool
is_heeded ms name = not (bytes_eq name (codes "contentSchema"))
    || is_some (get_member (codes "contentMediaType") ms)

abbrev pub note_of : Known → List ℕ → Data → Note
note_of keyword name d = record { keyword = name; value = d; of_texts = is_of_texts keyword }

-- of a member of the object ms
abbrev pub member_notes : Draft → Members → List ℕ → Data → List Note
member_notes draft ms name d = if is_annotation (known_named draft ms name) && is_heeded ms name
    then note_of (known_named draft ms name) name d ∷ [] else []

-- member by member
abbrev pub members_notes : Draft → Members → Members → List Note
members_notes draft ms no_members = []
members_notes draft ms (member name d rest) =
    member_notes draft ms name d ++ members_notes draft ms rest

abbrev pub notes_in : Draft → Data → List Note
notes_in draft (object ms) = members_notes draft ms ms
notes_in draft other = []

abbrev pub header_at : Draft → Documents → Path → Header
header_at draft documents path = record {
  location = location_of path;
  absolute = absolute_among draft documents path;
  notes = unwrap_or (option_map (notes_in draft) (value_in documents path)) [];
}
