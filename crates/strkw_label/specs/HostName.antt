-- Host names with internationalised labels (RFC 5890 section 2.3), as lists of characters.
use Rattle.std.specs.Prelude.{◌≡◌, ℕ, ◌≤◌, List, ◌++◌, length, map, All, codes, slice_index}
use Rattle.std.specs.Char.{IsScalar, to_ascii_lowercase}
use Rattle.std.specs.Str.{byte}
use Rattle.strkw_text.specs.Abnf.{SeparatedBy}
use Rattle.strkw_net.specs.HostName.{IsLabel}
use Rattle.strkw_label.specs.Punycode.{punycode, SameUpToCase}
use Rattle.strkw_label.specs.LabelRules.{IsAdmittedLabel}

-- the label is the prefix `xn--` (RFC 5890 section 2.3.2.5), in any letter case as its section
-- 2.3.1 has it, and then the payload
abbrev pub IsXnLabel : List ℕ → List ℕ → Type 0
IsXnLabel label payload = (prefix : List ℕ) × (map to_ascii_lowercase prefix ≡ codes "xn--")
    × (label ≡ prefix ++ payload)

-- the payload is, up to the letter case of its encoded part, the Punycode of a text that the label
-- rules admit
abbrev pub EncodesAdmitted : List ℕ → Type 0
EncodesAdmitted payload = (text : List ℕ) × All IsScalar text × SameUpToCase payload (punycode text)
    × IsAdmittedLabel text

-- hyphens in third and fourth place are reserved to XN-labels (RFC 5890 section 2.3.1), and the
-- payload of an XN-label encodes an admitted text (section 2.3.2.1). Of that text neither a
-- character past ASCII is asked, nor that its own third and fourth are not both hyphens (RFC 5891
-- section 4.2.3.1)
pub record KeepsXnRules (label : List ℕ) : Type 0 where
  pub reserved : slice_index label 2 ≡ byte "-" → slice_index label 3 ≡ byte "-"
      → (payload : List ℕ) × IsXnLabel label payload
  pub encodes : (payload : List ℕ) → IsXnLabel label payload → EncodesAdmitted payload

-- an ASCII label that keeps these rules
pub record IsHostNameLabel (label : List ℕ) : Type 0 where
  pub ascii : IsLabel label
  pub xn : KeepsXnRules label

-- such labels with "." between them, 1 to 253 characters
pub record IsHostName (text : List ℕ) : Type 0 where
  pub labels : SeparatedBy (byte ".") IsHostNameLabel text
  pub size : length text ≤ 253
