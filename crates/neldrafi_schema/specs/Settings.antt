-- What a schema is compiled under.
use Rattle.std.specs.Prelude.{ℕ, List, [], ◌∷◌, map, Bool, true, false, None, slice_set, unwrap_or}
use Rattle.serde_json.specs.Data.{Data}
use Rattle.serde_json.specs.View.{view}
use Rattle.strkw_report.specs.declared.draft.Draft.TheVariants.{Draft202012}
use Rattle.strkw_pattern.specs.declared.engine.Outcome.{Outcome}
use Rattle.strkw_keywords.specs.declared.keyword.Keyword.{Keyword}
use Rattle.strkw_keywords.specs.Handed.{lists_of}
use Rattle.strkw_keywords.specs.Keywords.{keyword_place}
use Rattle.strkw_keywords.specs.Meanings.{Decoded}
use Rattle.strkw_keywords.specs.Object.{Settings, default_options}
use Rattle.neldrafi_schema.specs.declared.config.Config.{Config}
use Rattle.neldrafi_schema.specs.declared.config.Document.{Document as GivenDocument}
use Rattle.neldrafi_schema.specs.Documents.{Document, Documents}
use Rattle.neldrafi_schema.specs.Drafts.{draft_of}
use Rattle.neldrafi_schema.specs.Paths.{Path, location_of}

-- by the meanings of the builder and of the boxes that the lists hold
abbrev pub config_settings : {B X : Type 0} {F : X → Type 0} {Y : Type 0} {M : Y → Type 0}
    {Z : Type 0} {C : Z → Type 0} → (B → List ℕ → Bool) → (B → List ℕ → List ℕ → Outcome)
    → ((x : X) × F x → List ℕ → Bool) → ((y : Y) × M y → List ℕ → Bool)
    → ((z : Z) × C z → List ℕ → Bool) → ((z : Z) × C z → List ℕ → Decoded)
    → Config B X Y Z F M C → Settings
config_settings takes outcome admits accepts is_encoding decoding config = record {
  draft = unwrap_or config.draft Draft202012;
  place = record { schema = []; prefix = None };
  options = record default_options {
    validate_formats = config.validate_formats;
    ignore_unknown_formats = config.ignore_unknown_formats;
  };
  lists = lists_of admits accepts is_encoding decoding config.checks;
  takes = takes config.builder.now;
  outcome = outcome config.builder.now;
}

-- the same, with the draft of a schema
abbrev pub document_settings : Settings → Data → Settings
document_settings s schema = record s { draft = draft_of s.draft schema }

abbrev pub document_of : GivenDocument → Document
document_of d = record { uri = d.uri.now; value = view d.value.now }

-- a schema, with the further documents
abbrev pub documents_for : {B X : Type 0} {F : X → Type 0} {Y : Type 0} {M : Y → Type 0}
    {Z : Type 0} {C : Z → Type 0} → Config B X Y Z F M C → Data → Documents
documents_for config schema =
    record { schema = schema; further = map document_of config.documents.now }

-- every keyword is left out but one
abbrev pub all_but : Keyword → List Bool
all_but keyword = slice_set (true ∷ true ∷ true ∷ true ∷ true ∷ true ∷ true ∷ [])
    (keyword_place keyword) false

-- the same, for one string keyword of the schema at a path
abbrev pub keyword_settings : Settings → Path → Keyword → Settings
keyword_settings s path keyword = record s {
  place = record { schema = location_of path; prefix = None };
  options = record s.options { overridden = all_but keyword };
}
