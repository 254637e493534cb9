-- The parts of arrays and objects in a text that is known to be JSON (RFC 8259, sections 2, 4, 5 and 7).
-- A text is its UTF-8 bytes.
use Rattle.std.specs.Prelude.{◌==◌, ◌+◌, ◌-◌, ℕ, List, [], ◌∷◌, Bool, false, ◌&&◌, ◌||◌, if◌then◌else◌}
use Rattle.std.specs.Str.{byte}

-- white space (section 2), and what follows it
abbrev pub is_space : ℕ → Bool
is_space c = c == byte " " || c == byte "\t" || c == byte "\n" || c == byte "\r"

abbrev pub behind_space : List ℕ → List ℕ
behind_space [] = []
behind_space (c ∷ text) = if is_space c then behind_space text else c ∷ text

abbrev pub opens : ℕ → Bool
opens c = c == byte "[" || c == byte "{"

abbrev pub closes : ℕ → Bool
closes c = c == byte "]" || c == byte "}"

-- elements and members have commas between them, and a colon is behind a key (sections 4 and 5)
abbrev pub separates : ℕ → Bool
separates c = c == byte "," || c == byte ":"

-- The texts behind the commas and colons that separate the parts of an array or object, up to where it
-- closes. Those in its strings do not count, nor those in arrays and objects within it, of which as many
-- as the depth says have opened and not closed.
abbrev mutual
  pub behind_separators : ℕ → List ℕ → List (List ℕ)
  behind_separators depth [] = []
  behind_separators depth (c ∷ text) =
      if c == byte "\"" then in_string depth text
      else (if opens c then behind_separators (depth + 1) text
      else (if closes c then (if depth == 0 then [] else behind_separators (depth - 1) text)
      else (if separates c && depth == 0 then text ∷ behind_separators 0 text
      else behind_separators depth text)))

  -- a string ends at a quote; a backslash takes the character behind it along (section 7)
  pub in_string : ℕ → List ℕ → List (List ℕ)
  in_string depth [] = []
  in_string depth (c ∷ text) =
      if c == byte "\"" then behind_separators depth text
      else (if c == byte "\\" then in_escape depth text else in_string depth text)

  pub in_escape : ℕ → List ℕ → List (List ℕ)
  in_escape depth [] = []
  in_escape depth (c ∷ text) = in_string depth text

-- The texts from each element of an array on, or from each key and each value of an object on, of a text
-- that begins behind the opening bracket or brace.
abbrev pub parts : List ℕ → List (List ℕ)
parts text = text ∷ behind_separators 0 text

-- an array without elements closes at once
abbrev pub begins_with_closing : List ℕ → Bool
begins_with_closing [] = false
begins_with_closing (c ∷ text) = closes c

abbrev pub elements : List ℕ → List (List ℕ)
elements text = if begins_with_closing (behind_space text) then [] else parts text
