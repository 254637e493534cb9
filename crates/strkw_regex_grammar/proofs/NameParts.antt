-- The parts of names.
use Rattle.std.proofs.Common.{◌≡◌, ℕ, Bool, true, false, if◌then◌else◌, ◌==◌, List, [], ◌∷◌, ◌++◌, refl, ap, ◌∙◌, not, ◌&&◌, ◌||◌, map, sym}
use Rattle.std.specs.Str.{byte}
use Rattle.ucd_derived.proofs.Computing.{ucd_derived}
use Rattle.strkw_regex_grammar.specs.Names.{NameChar, name_value, is_name_start, is_name_part, IsNameChar, AreNameParts, IsName, may_follow, name_token, name_end, name_backslash, name_equals, name_negation, name_character, same_name, are_distinct}
use Rattle.strkw_regex_grammar.proofs.Letters.{is_not}
use Rattle.std.specs.List.{list_any}

-- the beginning of a name
abbrev pub IsNamePart : List NameChar → Type 0
IsNamePart [] = Unit {0}
IsNamePart (y ∷ n) = IsName (y ∷ n)

-- names
-- characters that may go on with a name, with one more of them, are such
parts_push : (n : List NameChar) (y : NameChar) → AreNameParts n → IsNameChar is_name_part y → AreNameParts (n ++ y ∷ [])
parts_push [] y h w = (w, tt)
parts_push (z ∷ n) y h w = (h.0, parts_push n y h.1 w)

-- the beginning of a name, with a character that may follow it, is the beginning of one
pub name_push : (n : List NameChar) (y : NameChar) → IsNamePart n → IsNameChar (may_follow (name_value n)) y → IsNamePart (n ++ y ∷ [])
name_push [] y h w = (w, tt)
name_push (z ∷ n) y h w = (h.0, parts_push n y h.1 w)

-- the characters that have a meaning of their own in a name are none of its
pub IsApart : (ℕ → Bool) → Type 0
IsApart f = (f (byte ">") ≡ false) × (f (byte "\\") ≡ false) × (f (byte "=") ≡ false) × (f (byte "!") ≡ false)

-- so it is with the characters that may begin a name
pub start_apart : IsApart is_name_start
unfolding IsApart ucd_derived
start_apart = (refl, refl, refl, refl)

-- and with those that may go on with it
pub part_apart : IsApart is_name_part
unfolding IsApart ucd_derived
part_apart = (refl, refl, refl, refl)

-- so it is with those that may follow this much of a name
pub follow_apart : (ds : List ℕ) → IsApart (may_follow ds)
follow_apart [] = start_apart
follow_apart (d ∷ ds) = part_apart

-- a character of a name is taken as one of its characters
pub token_of_name : (f : ℕ → Bool) → IsApart f → (c : ℕ) → f c ≡ true → name_token c ≡ name_character
unfolding IsApart
token_of_name f a c h =
    ap (λ (b : Bool). if b then name_end else if c == byte "\\" then name_backslash else if c == byte "=" then name_equals
    else if c == byte "!" then name_negation else name_character) (is_not f c (byte ">") _ refl h a.0)
    ∙ ap (λ (b : Bool). if b then name_backslash else if c == byte "=" then name_equals else if c == byte "!" then name_negation
    else name_character) (is_not f c (byte "\\") _ refl h a.1)
    ∙ ap (λ (b : Bool). if b then name_equals else if c == byte "!" then name_negation else name_character) (is_not f c (byte "=") _ refl h a.2)
    ∙ ap (λ (b : Bool). if b then name_negation else name_character) (is_not f c (byte "!") _ refl h a.3)

-- ---- whether no name of a list is there twice, from the first on

-- a name is among those that f gives exactly where f gives it to some element
any_of_map : {X : Type 0} (f : X → List ℕ) (n : List ℕ) (xs : List X)
    → list_any (λ m. same_name m n) (map f xs) ≡ list_any (λ y. same_name (f y) n) xs
any_of_map f n [] = refl
any_of_map f n (x ∷ xs) = ap (λ (b : Bool). same_name (f x) n || b) (any_of_map f n xs)

-- names are distinct exactly where the first is none of the others and these are distinct
pub distinct_by_first : {X : Type 0} (f : X → List ℕ) (x : X) (xs : List X) (b : Bool)
    → b ≡ list_any (λ y. same_name (f y) (f x)) xs → are_distinct (map f (x ∷ xs)) ≡ not b && are_distinct (map f xs)
distinct_by_first f x xs b e =
    ap (λ (z : Bool). not z && are_distinct (map f xs)) (any_of_map f (f x) xs ∙ sym e)
