-- Where a reference leads: to a resource by its URI, and in it by a JSON pointer or a plain name
-- (Core 2020-12, section 8.2.3.1; RFC 6901, sections 4 and 6).
use Rattle.std.specs.Prelude.{ℕ, List, [], ◌∷◌, ◌++◌, Bool, true, false, Option, Some, None}
use Rattle.std.specs.Prelude.{option_and_then, option_map, unwrap_or, if◌then◌else◌, ◌==◌, not, ◌&&◌, ◌||◌}
use Rattle.std.specs.Prelude.{◌^◌, nat_lt, length, slice_index}
use Rattle.std.specs.List.{slice_split}
use Rattle.std.specs.Str.{all_ascii_digits, byte, is_utf8}
use Rattle.std.specs.Str.Parse.{digits_value}
use Rattle.serde_json.specs.Data.{Data, null, boolean, number, string, array, object}
use Rattle.serde_json.specs.Find.{unescape}
use Rattle.percent_encoding.specs.Percent.{percent_decode}
use Rattle.strkw_report.specs.declared.draft.Draft.{Draft}
use Rattle.neldrafi_uri.specs.Components.{fragment_of, without_fragment}
use Rattle.neldrafi_uri.specs.Resolution.{resolved}
use Rattle.neldrafi_schema.specs.Paths.{Path, Segment, key, place, child}
use Rattle.neldrafi_schema.specs.Resources.{Identifier, all_identifiers, base_among, identified}
use Rattle.neldrafi_schema.specs.Documents.{Documents, value_in}
use Rattle.neldrafi_schema.specs.Scopes.{Scope, dynamic_resource}

-- digits, with no 0 before another
abbrev pub is_place : List ℕ → Bool
is_place token = nat_lt 0 (length token) && all_ascii_digits token
    && (length token == 1 || not (slice_index token 0 == byte "0"))

-- the place that a token names, which is one of 64 bits
unfoldable pub place_named : List ℕ → Option ℕ
place_named token = if is_place token && nat_lt (digits_value 10 token) (2 ^ 64)
    then Some (digits_value 10 token) else None

-- what a token of a pointer says at an array: a place, where it is one
abbrev pub item_segment : List ℕ → Option ℕ → Segment
item_segment token (Some n) = place n
item_segment token None = key (unescape token)

-- and what it says at a value
abbrev pub segment_at : Data → List ℕ → Segment
segment_at (array ds) token = item_segment token (place_named token)
segment_at other token = key (unescape token)

-- the path along tokens from a value, where something stands at its end
abbrev pub path_along : List (List ℕ) → Data → Option Path
path_along [] d = Some []
path_along (token ∷ tokens) d = option_and_then
    (λ below. option_map (λ path. segment_at d token ∷ path) (path_along tokens below))
    (child (segment_at d token) d)

-- nothing stands before the first `/`
abbrev pub path_of_tokens : Data → List (List ℕ) → Option Path
path_of_tokens document [] = None
path_of_tokens document ([] ∷ tokens) = path_along tokens document
path_of_tokens document ((c ∷ cs) ∷ tokens) = None

abbrev pub path_of_pointer : Data → List ℕ → Option Path
path_of_pointer document pointer =
    path_of_tokens document (slice_split (λ b. b == byte "/") pointer)

-- what a fragment stands for, where that is a text
abbrev pub decoded : List ℕ → Option (List ℕ)
decoded fragment =
    if is_utf8 (percent_decode fragment) then Some (percent_decode fragment) else None

-- what a pointer names, from the value at a path on
abbrev pub path_from : Documents → List ℕ → Path → Option Path
path_from documents pointer root = option_and_then
    (λ d. option_map (λ below. root ++ below) (path_of_pointer d pointer)) (value_in documents root)

-- a pointer is empty, or begins with `/`
abbrev pub is_pointer : List ℕ → Bool
is_pointer [] = true
is_pointer (c ∷ fragment) = c == byte "/"

-- what a pointer names, from what a URI and a plain name identify on
abbrev pub path_in : Documents → List Identifier → List ℕ → List ℕ → List ℕ → Option Path
path_in documents ids uri anchor pointer =
    option_and_then (path_from documents pointer) (identified uri anchor ids)

-- A fragment, decoded, is a pointer from the root of the resource of a URI, or a plain name.
abbrev pub path_of_fragment : Documents → List Identifier → List ℕ → List ℕ → Option Path
path_of_fragment documents ids uri fragment = if is_pointer fragment
    then path_in documents ids uri [] fragment else path_in documents ids uri fragment []

abbrev pub path_of_uri : Documents → List Identifier → Scope → List ℕ → Option (List ℕ) → Option Path
path_of_uri documents ids scope uri fragment = option_and_then
    (λ name. path_of_fragment documents ids (dynamic_resource ids scope name uri) name)
    (decoded (unwrap_or fragment []))

-- what a dynamic reference in the schema at a path names in this scope; any other reference is as one
-- in no scope
abbrev pub path_of_reference : Draft → Documents → Scope → Path → List ℕ → Option Path
path_of_reference draft documents scope path text =
    path_of_uri documents (all_identifiers draft documents) scope
    (resolved (base_among draft documents path) (without_fragment text)) (fragment_of text)

-- a schema is an object or a boolean (Core 2020-12, section 4.3)
abbrev pub is_schema : Data → Bool
is_schema null = false
is_schema (boolean b) = true
is_schema (number x) = false
is_schema (string s) = false
is_schema (array ds) = false
is_schema (object ms) = true

abbrev pub if_schema : Path → Data → Option Path
if_schema path d = if is_schema d then Some path else None

-- the path to the schema to which a reference in the schema at a path leads
abbrev pub schema_referred : Draft → Documents → Scope → Path → List ℕ → Option Path
schema_referred draft documents scope path text = option_and_then
    (λ found. option_and_then (if_schema found) (value_in documents found))
    (path_of_reference draft documents scope path text)
