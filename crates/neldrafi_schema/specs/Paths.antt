-- Where a value is in a document: the segments that lead to it from the root. A text is its UTF-8
-- bytes.
use Rattle.std.specs.Prelude.{◌≡◌, ◌++◌, ℕ, List, [], ◌∷◌, Option, Some, None, codes, option_and_then, decimal}
use Rattle.std.specs.List.{flat_map}
use Rattle.std.specs.declared.cmp.Ordering.{Ordering}
use Rattle.std.specs.declared.cmp.Ordering.TheVariants.{Less, Greater}
use Rattle.std.specs.Ordering.{nat_cmp}
use Rattle.std.specs.Cmp.Lexicographic.{slice_cmp}
use Rattle.serde_json.specs.Data.{Data}
use Rattle.serde_json.specs.Find.{get, at}
use Rattle.strkw_report.specs.Paths.{escaped_segment}

-- One step into a value: the key of a member, or the place of an item, counted from 0. Among several
-- documents the first step is the number of one.
pub data Segment : Type 0 where
  key : List ℕ → Segment
  place : ℕ → Segment
  document : ℕ → Segment

abbrev pub Path : Type 0
Path = List Segment

abbrev pub segment_text : Segment → List ℕ
segment_text (key name) = name
segment_text (place n) = decimal n
segment_text (document n) = []

-- as a JSON pointer, in its document (RFC 6901, section 3)
abbrev pub segment_location : Segment → List ℕ
segment_location (document n) = []
segment_location s = codes "/" ++ escaped_segment (segment_text s)

abbrev pub location_of : Path → List ℕ
location_of path = flat_map segment_location path

abbrev pub child : Segment → Data → Option Data
child (key name) d = get name d
child (place n) d = at n d
child (document n) d = None

abbrev pub value_at : Path → Data → Option Data
value_at [] d = Some d
value_at (s ∷ path) d = option_and_then (value_at path) (child s d)

-- The order of a document, in which a value precedes what is in it, and members are ordered by the
-- bytes of their keys, as `serde_json` keeps them, and items by their places; and of documents by number.
abbrev pub segment_cmp : Segment → Segment → Ordering
segment_cmp (key a) (key b) = slice_cmp nat_cmp a b
segment_cmp (key a) other = Less
segment_cmp (place m) (key b) = Greater
segment_cmp (place m) (place n) = nat_cmp m n
segment_cmp (place m) (document n) = Less
segment_cmp (document m) (document n) = nat_cmp m n
segment_cmp (document m) other = Greater

abbrev pub path_cmp : Path → Path → Ordering
path_cmp = slice_cmp segment_cmp

abbrev pub StandsBefore : Path → Path → Type 0
StandsBefore a b = path_cmp a b ≡ Less
