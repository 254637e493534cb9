-- ASCII host names, RFC 1034 section 3.5, as RFC 1123 section 2.1 changed it: a label may begin
-- with a digit.
use Rattle.std.specs.Prelude.{◌≢◌, ℕ, ◌-◌, ◌≤◌, Bool, ◌||◌, ◌==◌, List, ◌∷◌, ◌++◌, length}
use Rattle.std.specs.Prelude.{replicate, slice_index}
use Rattle.std.specs.List.{AllPass}
use Rattle.std.specs.Str.{byte}
use Rattle.std.specs.Char.{is_ascii_alphanumeric}
use Rattle.strkw_text.specs.Abnf.{SeparatedBy}

-- let-dig-hyp
abbrev pub is_letter_digit_hyphen : ℕ → Bool
is_letter_digit_hyphen c = is_ascii_alphanumeric c || (c == byte "-")

-- label: 1 to 63 letters, digits and hyphens, no hyphen first or last
pub record IsLabel (label : List ℕ) : Type 0 where
  pub size : (1 ≤ length label) × (length label ≤ 63)
  pub letters : AllPass is_letter_digit_hyphen label
  pub first : slice_index label 0 ≢ byte "-"
  pub last : slice_index label (length label - 1) ≢ byte "-"

-- label *("." label), of at most 253 characters: 255 octets, a length octet for each label and one
-- for the root among them (RFC 1034 section 3.1). That no host name is a dotted decimal (RFC 1123
-- section 2.1) is not asked here.
pub record IsAsciiHostName (text : List ℕ) : Type 0 where
  pub labels : SeparatedBy (byte ".") IsLabel text
  pub size : length text ≤ 253

-- Examples: so many times the letter a, and labels of 63, 63, 63 and 61 of them, a host name of
-- greatest length.
abbrev pub letters : ℕ → List ℕ
letters n = replicate n (byte "a")

abbrev pub longest_name : List ℕ
longest_name = letters 63 ++ byte "."
    ∷ (letters 63 ++ byte "." ∷ (letters 63 ++ byte "." ∷ letters 61))
