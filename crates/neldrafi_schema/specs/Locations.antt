-- Absolute locations of schemas (Core 2020-12, sections 9.2.1 and 12.3.2): the URI of the resource in which a
-- schema is, and the JSON pointer to it from the root of that resource, as a fragment.
use Rattle.std.specs.Prelude.{ℕ, ◌/◌, ◌%◌, true, List, [], ◌∷◌, ◌++◌, Bool, ◌||◌, option_map, unwrap_or, codes, if◌then◌else◌}
use Rattle.std.specs.Char.{is_ascii_alphanumeric}
use Rattle.std.specs.List.{flat_map}
use Rattle.std.specs.Fmt.{digit_glyph}
use Rattle.std.specs.Str.{byte, bytes_eq}
use Rattle.serde_json.specs.Data.{Data}
use Rattle.strkw_report.specs.declared.draft.Draft.{Draft}
use Rattle.neldrafi_schema.specs.Documents.{Document, Documents, document_at}
use Rattle.neldrafi_schema.specs.Drafts.{is_any_of}
use Rattle.neldrafi_schema.specs.Paths.{Path, document, child, location_of}
use Rattle.neldrafi_schema.specs.Resources.{base_at, base_in}

-- what a fragment has as it is (RFC 3986, section 3.5)
abbrev pub is_of_fragment : ℕ → Bool
is_of_fragment b = is_ascii_alphanumeric b || is_any_of (codes "-._~!$&'()*+,;=:@/?") b

-- percent-encoded (section 2.1)
abbrev pub percent_encoded : ℕ → List ℕ
percent_encoded b = byte "%" ∷ digit_glyph true (b / 16) ∷ digit_glyph true (b % 16) ∷ []

abbrev pub fragment_byte : ℕ → List ℕ
fragment_byte b = if is_of_fragment b then b ∷ [] else percent_encoded b

-- a URI with a text as its fragment
abbrev pub with_fragment : List ℕ → List ℕ → List ℕ
with_fragment uri text = uri ++ codes "#" ++ flat_map fragment_byte text

-- what of a path from a value on is below the first schema on it that has this base URI
abbrev pub below_root : Draft → List ℕ → List ℕ → Path → Data → Path
below_root draft uri base [] d = []
below_root draft uri base (s ∷ path) d = if bytes_eq (base_in draft base d) uri then s ∷ path
    else unwrap_or (option_map (below_root draft uri (base_in draft base d) path) (child s d)) []

-- of the schema at a path of a document
abbrev pub absolute_at : Draft → Path → Document → List ℕ
absolute_at draft path d = let uri = base_at draft d.uri path d.value in
    with_fragment uri (location_of (below_root draft uri d.uri path d.value))

-- of the schema at a path, whose first step is the number of a document
abbrev pub absolute_among : Draft → Documents → Path → List ℕ
absolute_among draft documents (document n ∷ path) =
    unwrap_or (option_map (absolute_at draft path) (document_at documents n)) []
absolute_among draft documents other = []
