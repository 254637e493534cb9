-- Where a value is in a text that is known to be JSON, by its JSON pointer (RFC 6901, sections 3 and 4).
use Rattle.std.specs.Prelude.{◌==◌, ◌-◌, ℕ, List, [], ◌∷◌, Bool, false, not, ◌&&◌, ◌||◌, Option, Some, None}
use Rattle.std.specs.Prelude.{if◌then◌else◌, length, nat_lt, option_and_then, slice_get, slice_index, take}
use Rattle.std.specs.List.{slice_split}
use Rattle.std.specs.Option.{option_map_or, option_or}
use Rattle.std.specs.Bool.{then_some}
use Rattle.std.specs.Str.{all_ascii_digits, byte, bytes_eq}
use Rattle.std.specs.Str.Parse.{digits_value}
use Rattle.serde_json.specs.Find.{as_str, unescape}
use Rattle.serde_json.specs.Read.{read}
use Rattle.neldrafi_position.specs.Parts.{behind_space, elements, parts}

-- ---- elements: the token is digits with no 0 before another

abbrev pub is_index : List ℕ → Bool
is_index token = nat_lt 0 (length token) && all_ascii_digits token
    && (length token == 1 || not (slice_index token 0 == byte "0"))

unfoldable pub index_of : List ℕ → Option ℕ
index_of token = if is_index token then Some (digits_value 10 token) else None

abbrev pub element : List ℕ → List ℕ → Option (List ℕ)
element token text = option_and_then (slice_get (elements text)) (index_of token)

-- ---- members: the token, unescaped, is the name; of members with the same name the last counts

-- the text of a key, from the text from the key on and that from its value on, between which is a colon
abbrev pub key_text : List ℕ → List ℕ → List ℕ
key_text key value = take (length key - length value - 1) key

-- whether the text of a key, read as JSON, is this string
unfoldable pub names : List ℕ → List ℕ → Bool
names key name = option_map_or (bytes_eq name) (option_and_then as_str (read key)) false

-- the text from the value of the last member of this name on, of the texts from keys and values on
abbrev pub last_named : List ℕ → List (List ℕ) → Option (List ℕ)
last_named name [] = None
last_named name (key ∷ []) = None
last_named name (key ∷ value ∷ others) =
    option_or (last_named name others) (then_some (names (key_text key value) name) value)

abbrev pub member : List ℕ → List ℕ → Option (List ℕ)
member token text = last_named (unescape token) (parts text)

-- ---- the value at a pointer

-- what a token leads to from the value in front of a text
abbrev pub child : List ℕ → List ℕ → Option (List ℕ)
child token [] = None
child token (c ∷ text) = if c == byte "[" then element token text
    else (if c == byte "{" then member token text else None)

-- the text from the value on to which tokens lead
abbrev pub value_along : List (List ℕ) → List ℕ → Option (List ℕ)
value_along [] text = Some (behind_space text)
value_along (token ∷ tokens) text =
    option_and_then (value_along tokens) (child token (behind_space text))

-- each reference token has a `/` before it, and nothing stands before the first (section 3)
abbrev pub behind_first : List ℕ → List (List ℕ) → Option (List ℕ)
behind_first text [] = None
behind_first text ([] ∷ tokens) = value_along tokens text
behind_first text ((c ∷ cs) ∷ tokens) = None

-- the text from the value at a pointer on
abbrev pub value_at : List ℕ → List ℕ → Option (List ℕ)
value_at pointer text = behind_first text (slice_split (λ b. b == byte "/") pointer)
