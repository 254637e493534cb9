-- The contextual rules for characters of a label (RFC 5892 appendix A), over the tables of Unicode
-- 18.0. A label is a list of characters, and the rules are those of its place k.
use Rattle.std.specs.Prelude.{◌≡◌, ℕ, ◌+◌, ◌-◌, ◌<◌, ◌⊎◌, Bool, true, false, ◌==◌, List, length}
use Rattle.std.specs.Prelude.{slice_index, IsTrue}
use Rattle.std.specs.Int.{is_in_range}
use Rattle.std.specs.List.{list_any}
use Rattle.ucd_bidi.specs.JoiningType.{joining_type}
use Rattle.ucd_bidi.specs.declared.JoiningType.{JoiningType}
use Rattle.ucd_bidi.specs.declared.JoiningType.TheVariants.{DualJoining, LeftJoining, RightJoining}
use Rattle.ucd_bidi.specs.declared.JoiningType.TheVariants.{Transparent}
use Rattle.ucd_normal.specs.CanonicalCombiningClass.{canonical_combining_class}
use Rattle.ucd_script.specs.Script.{script}
use Rattle.ucd_script.specs.declared.Script.{Script}
use Rattle.ucd_script.specs.declared.Script.TheVariants.{Greek, Hebrew, Hiragana, Katakana, Han}
use Rattle.strkw_label.specs.LabelRules.{MiddleDotStands}

-- Joining_Type:{L,D} and Joining_Type:{R,D}
abbrev pub joins_to_the_left : JoiningType → Bool
joins_to_the_left LeftJoining = true
joins_to_the_left DualJoining = true
joins_to_the_left _ = false

abbrev pub joins_to_the_right : JoiningType → Bool
joins_to_the_right RightJoining = true
joins_to_the_right DualJoining = true
joins_to_the_right _ = false

-- the combining class Virama, which has the number 9
abbrev pub is_virama_class : ℕ → Bool
is_virama_class class = class == 9

-- directly before place k stands a character of the combining class Virama
abbrev pub FollowsVirama : List ℕ → ℕ → Type 0
FollowsVirama label k = (0 < k)
    × IsTrue (is_virama_class (canonical_combining_class (slice_index label (k - 1))))

-- (Joining_Type:{L,D})(Joining_Type:T)* ends directly before place k
pub record JoinsBefore (label : List ℕ) (k : ℕ) : Type 0 where
  pub at : ℕ
  pub before : at < k
  pub joining : IsTrue (joins_to_the_left (joining_type (slice_index label at)))
  pub between : (m : ℕ) → at < m → m < k → joining_type (slice_index label m) ≡ Transparent

-- (Joining_Type:T)*(Joining_Type:{R,D}) begins at place k
pub record JoinsFrom (label : List ℕ) (k : ℕ) : Type 0 where
  pub at : ℕ
  pub after : k < at + 1
  pub within : at < length label
  pub joining : IsTrue (joins_to_the_right (joining_type (slice_index label at)))
  pub between : (m : ℕ) → k < m + 1 → m < at → joining_type (slice_index label m) ≡ Transparent

-- Script(cp) is one of Hiragana, Katakana and Han
abbrev pub is_japanese : Script → Bool
is_japanese Hiragana = true
is_japanese Katakana = true
is_japanese Han = true
is_japanese _ = false

-- A.1, zero width non-joiner
abbrev pub NonJoinerFits : List ℕ → ℕ → Type 0
NonJoinerFits label k = slice_index label k ≡ 0x200C
    → FollowsVirama label k ⊎ (JoinsBefore label k × JoinsFrom label (k + 1))

-- A.2, zero width joiner
abbrev pub JoinerFits : List ℕ → ℕ → Type 0
JoinerFits label k = slice_index label k ≡ 0x200D → FollowsVirama label k

-- A.4, Greek lower numeral sign (keraia): directly before a character of the script Greek
abbrev pub KeraiaFits : List ℕ → ℕ → Type 0
KeraiaFits label k = slice_index label k ≡ 0x375 → (k + 1 < length label)
    × (script (slice_index label (k + 1)) ≡ Greek)

-- A.5 and A.6, Hebrew geresh and gershayim: directly after a character of the script Hebrew
abbrev pub GereshFits : List ℕ → ℕ → Type 0
GereshFits label k = IsTrue (is_in_range 0x5F3 0x5F4 (slice_index label k)) → (0 < k)
    × (script (slice_index label (k - 1)) ≡ Hebrew)

-- the rules of place k but for A.7 to A.9, where A.3 is that a middle dot is between two `l`
pub record FitsNeighbours (label : List ℕ) (k : ℕ) : Type 0 where
  pub non_joiner : NonJoinerFits label k
  pub joiner : JoinerFits label k
  pub middle_dot : MiddleDotStands label k
  pub keraia : KeraiaFits label k
  pub geresh : GereshFits label k

-- all rules, of each place: A.7 to A.9 speak of the whole label
pub record FitsContext (label : List ℕ) : Type 0 where
  pub neighbours : (k : ℕ) → k < length label → FitsNeighbours label k
  -- A.7, katakana middle dot: in a label with a character of these scripts
  pub katakana_dot : IsTrue (list_any (λ c. c == 0x30FB) label)
      → IsTrue (list_any (λ c. is_japanese (script c)) label)
  -- A.8 and A.9: Arabic-Indic digits and extended ones not both
  pub one_digit_set : IsTrue (list_any (λ c. is_in_range 0x660 0x669 c) label)
      → IsTrue (list_any (λ c. is_in_range 0x6F0 0x6F9 c) label) → ⊥
