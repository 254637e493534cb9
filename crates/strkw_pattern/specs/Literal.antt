-- Literal patterns: regular expressions of ECMA-262 that a plain comparison of texts decides. A
-- literal is a small tree, and a pattern is literal where some tree is spelled so.
use Rattle.std.specs.Prelude.{◌≡◌, ℕ, ◌<◌, Bool, true, ◌||◌, List, [], ◌∷◌, ◌++◌, map, length}
use Rattle.std.specs.Prelude.{codes, All}
use Rattle.std.specs.Char.{is_ascii_alphanumeric}
use Rattle.std.specs.List.{flat_map, join_with_byte}
use Rattle.std.specs.Str.{byte}
use Rattle.strkw_text.specs.Characters.{is_one_of}

-- a character of a literal: one that stands for itself, or one after a backslash
pub data Item : Type 0 where
  plain : ℕ → Item
  escaped : ℕ → Item

-- a letter, a digit, a space or one of - _ / : @ # % & = , ; ~ ! ' " < >
unfoldable pub is_plain : ℕ → Bool
is_plain c = is_ascii_alphanumeric c || is_one_of (codes " -_/:@#%&=,;~!'\"<>") c

-- one of ^ $ \ . * + ? ( ) [ ] { } | /
unfoldable pub is_escapable : ℕ → Bool
is_escapable c = is_one_of (codes "^$\\.*+?()[]{}|/") c

abbrev pub IsItem : Item → Type 0
IsItem (plain c) = is_plain c ≡ true
IsItem (escaped c) = is_escapable c ≡ true

-- an item as it is written
abbrev pub item_spelling : Item → List ℕ
item_spelling (plain c) = c ∷ []
item_spelling (escaped c) = byte "\\" ∷ c ∷ []

-- the character that it stands for
abbrev pub item_char : Item → ℕ
item_char (plain c) = c
item_char (escaped c) = c

-- items as they are written, and the text that they stand for
abbrev pub spelling_of : List Item → List ℕ
spelling_of xs = flat_map item_spelling xs

abbrev pub text_of : List Item → List ℕ
text_of xs = map item_char xs

-- one or more items
pub record AreItems (xs : List Item) : Type 0 where
  pub each : All IsItem xs
  pub some : 0 < length xs

-- one or more of them
pub record AreAlternatives (xss : List (List Item)) : Type 0 where
  pub each : All AreItems xss
  pub some : 0 < length xss

-- ^items, ^items$, ^(items|items)$ with one alternative or more, and ^\S*$
pub data Literal : Type 0 where
  prefix : List Item → Literal
  exact : List Item → Literal
  alternation : List (List Item) → Literal
  no_whitespace : Literal

abbrev pub IsWellFormed : Literal → Type 0
IsWellFormed (prefix xs) = AreItems xs
IsWellFormed (exact xs) = AreItems xs
IsWellFormed (alternation xss) = AreAlternatives xss
IsWellFormed no_whitespace = Unit {0}

-- a literal as it is written
abbrev pub spelling : Literal → List ℕ
spelling (prefix xs) = codes "^" ++ spelling_of xs
spelling (exact xs) = codes "^" ++ spelling_of xs ++ codes "$"
spelling (alternation xss) = codes "^(" ++ join_with_byte (byte "|") (map spelling_of xss)
    ++ codes ")$"
spelling no_whitespace = codes "^\\S*$"

-- the pattern is literal
abbrev pub IsLiteral : List ℕ → Type 0
IsLiteral pattern = (l : Literal) × IsWellFormed l × (pattern ≡ spelling l)
