-- What a URI reference refers to by a base URI (RFC 3986, sections 5.2 and 5.3).
use Rattle.std.specs.Prelude.{◌==◌, ◌-◌, ℕ, List, [], ◌∷◌, ◌++◌, Bool, true, false, ◌&&◌, ◌||◌, Option, Some, None}
use Rattle.std.specs.Prelude.{codes, if◌then◌else◌, is_some, length, take}
use Rattle.std.specs.List.{flat_map, slice_split}
use Rattle.std.specs.Str.{byte, bytes_eq}
use Rattle.neldrafi_uri.specs.Components.{Components, components_of}

-- ---- paths, as segments between slashes

abbrev pub segments_of : List ℕ → List (List ℕ)
segments_of path = slice_split (λ b. b == byte "/") path

abbrev pub is_empty : {A : Type 0} → List A → Bool
is_empty [] = true
is_empty (a ∷ others) = false

abbrev pub but_last : {A : Type 0} → List A → List A
but_last xs = take (length xs - 1) xs

-- ---- without the segments `.` and `..` (section 5.2.4)

abbrev pub is_dot : List ℕ → Bool
is_dot segment = bytes_eq segment (codes ".")

abbrev pub is_dot_dot : List ℕ → Bool
is_dot_dot segment = bytes_eq segment (codes "..")

-- a path of a first segment, and others with a slash before each
abbrev pub path_text : List ℕ → List (List ℕ) → List ℕ
path_text first others = first ++ flat_map (λ s. byte "/" ∷ s) others

-- at the end of a path they leave an empty segment
abbrev pub ended : List (List ℕ) → List (List ℕ) → List (List ℕ)
ended kept [] = kept ++ [] ∷ []
ended kept (s ∷ segments) = kept

-- `..` takes away the segment before it, the first one too
abbrev pub first_left : List ℕ → List (List ℕ) → List ℕ
first_left first kept = if is_empty kept then [] else first

-- what is left of a first segment, those kept behind it, and those to come
abbrev pub without_dots : List ℕ → List (List ℕ) → List (List ℕ) → List ℕ
without_dots first kept [] = path_text first kept
without_dots first kept (s ∷ segments) =
    if is_dot s then without_dots first (ended kept segments) segments
    else (if is_dot_dot s
    then without_dots (first_left first kept) (ended (but_last kept) segments) segments
    else without_dots first (kept ++ s ∷ []) segments)

-- Such segments at the beginning, with no slash before them, are dropped with the slash behind them.
abbrev pub dots_removed : List (List ℕ) → List ℕ
dots_removed [] = []
dots_removed (s ∷ segments) =
    if is_dot s || is_dot_dot s then dots_removed segments else without_dots s [] segments

-- ---- the target of a reference

-- the segments that come before those of a relative path (section 5.2.3)
abbrev pub base_segments : Components → List (List ℕ)
base_segments base = if is_some base.authority && is_empty base.path then [] ∷ []
    else but_last (segments_of base.path)

abbrev pub is_absolute : List ℕ → Bool
is_absolute [] = false
is_absolute (c ∷ path) = c == byte "/"

abbrev pub target_path : Components → List ℕ → List ℕ
target_path base path = dots_removed
    (if is_absolute path then segments_of path else base_segments base ++ segments_of path)

abbrev pub or_else : Option (List ℕ) → Option (List ℕ) → Option (List ℕ)
or_else (Some a) b = Some a
or_else None b = b

-- (section 5.2.2)
abbrev pub target : Components → Components → Components
target base r =
    if is_some r.scheme then record r { path = dots_removed (segments_of r.path) }
    else (if is_some r.authority
    then record r { scheme = base.scheme; path = dots_removed (segments_of r.path) }
    else (if is_empty r.path then record base { query = or_else r.query base.query }
    else record base { path = target_path base r.path; query = r.query }))

-- ---- as a text (section 5.3)

abbrev pub scheme_text : Option (List ℕ) → List ℕ
scheme_text (Some scheme) = scheme ++ codes ":"
scheme_text None = []

abbrev pub authority_text : Option (List ℕ) → List ℕ
authority_text (Some authority) = codes "//" ++ authority
authority_text None = []

abbrev pub query_text : Option (List ℕ) → List ℕ
query_text (Some query) = codes "?" ++ query
query_text None = []

abbrev pub text_of : Components → List ℕ
text_of t =
    scheme_text t.scheme ++ authority_text t.authority ++ t.path ++ query_text t.query

-- the URI to which a reference without a fragment refers
abbrev pub resolved : List ℕ → List ℕ → List ℕ
resolved base reference = text_of (target (components_of base) (components_of reference))
