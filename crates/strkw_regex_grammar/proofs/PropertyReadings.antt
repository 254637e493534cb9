-- Properties in a pattern: each is read from its spelling, and what is read is spelled so and has the characters of
-- one.
use Rattle.std.proofs.Common.{◌≡◌, ℕ, ◌==◌, Bool, true, false, List, [], ◌∷◌, ◌++◌, Option, None, if◌then◌else◌, refl, sym, ap, ◌∙◌, append_assoc}
use Rattle.std.proofs.lemmas.List.{append-nil}
use Rattle.std.specs.Str.{byte}
use Rattle.strkw_charset.specs.Properties.{Expression, alone, valued, expression_spelling, is_property_char, are_property_chars, has_property_chars}
use Rattle.strkw_charset.specs.Properties.{property_letter, property_spelling}
use Rattle.strkw_charset.specs.machine.PropertyReading.{PropertyPart, brace_awaited, in_braces, PropertyRead, no_property_read, property_goes}
use Rattle.strkw_charset.specs.machine.PropertyReading.{property_ends, with_char, on_brace, on_equals, on_property_char, property_next}
use Rattle.strkw_charset.proofs.Booleans.{and_true, and_left, and_right}
use Rattle.strkw_regex_grammar.proofs.Letters.{same_char, is_not}

-- what has been read, behind the backslash
abbrev pub part_spelling : PropertyPart → List ℕ
part_spelling (brace_awaited n) = property_letter n ∷ []
part_spelling (in_braces n e) = property_letter n ∷ byte "{" ∷ expression_spelling e

-- what comes of a character, a part or the whole, is spelled so
abbrev pub IsReadAs : PropertyRead → List ℕ → Type 0
IsReadAs no_property_read t = Unit {0}
IsReadAs (property_goes k) t = part_spelling k ≡ t
IsReadAs (property_ends n e) t = property_spelling n e ≡ t

-- an expression with one more character is spelled with that behind it
char_push : (e : Expression) (c : ℕ) → expression_spelling (with_char e c) ≡ expression_spelling e ++ c ∷ []
char_push (alone v) c = refl
char_push (valued n v) c = sym (append_assoc n (byte "=" ∷ v) (c ∷ []))

-- what comes of a character behind the letter is spelled with it
brace_as : (n : Bool) (c : ℕ) (b : Bool) → (c == byte "{") ≡ b → IsReadAs (on_brace n b) (property_letter n ∷ c ∷ [])
brace_as n c false h = tt
brace_as n c true h = ap (λ z. property_letter n ∷ z ∷ []) (same_char c (byte "{") h)

-- and what comes of an equals sign in the braces
equals_as : (n : Bool) (e : Expression) (c : ℕ) → (c == byte "=") ≡ true → IsReadAs (on_equals n e) (part_spelling (in_braces n e) ++ c ∷ [])
equals_as n (alone v) c h = ap (λ z. property_letter n ∷ byte "{" ∷ (v ++ z ∷ [])) (same_char c (byte "=") h)
equals_as n (valued m v) c h = tt

-- and what comes of a character of a name or a value
char_as : (n : Bool) (e : Expression) (c : ℕ) (b : Bool) → IsReadAs (on_property_char n e c b) (part_spelling (in_braces n e) ++ c ∷ [])
char_as n e c false = tt
char_as n e c true = ap (λ z. property_letter n ∷ byte "{" ∷ z) (char_push e c)

-- the next character in the braces, by what it is
abbrev in_braces_next : Bool → Expression → ℕ → Bool → Bool → Bool → PropertyRead
in_braces_next n e c closing equals other =
    if closing then property_ends n e else if equals then on_equals n e else on_property_char n e c other

-- so what comes of any character in the braces is spelled with it
in_braces_as : (n : Bool) (e : Expression) (c : ℕ) (x y z : Bool) → (c == byte "}") ≡ x → (c == byte "=") ≡ y
    → IsReadAs (in_braces_next n e c x y z) (part_spelling (in_braces n e) ++ c ∷ [])
in_braces_as n e c true y z h w =
    ap (λ d. property_letter n ∷ byte "{" ∷ (expression_spelling e ++ d ∷ [])) (same_char c (byte "}") h)
in_braces_as n e c false true z h w = equals_as n e c w
in_braces_as n e c false false z h w = char_as n e c z

-- what comes of the next character of a property is spelled with it
pub property_as : (k : PropertyPart) (c : ℕ) → IsReadAs (property_next k c) (part_spelling k ++ c ∷ [])
property_as (brace_awaited n) c = brace_as n c _ refl
property_as (in_braces n e) c = in_braces_as n e c _ _ _ refl refl

-- what may have been read
abbrev pub IsPart : PropertyPart → Type 0
IsPart (brace_awaited n) = Unit {0}
IsPart (in_braces n e) = has_property_chars e ≡ true

-- and what may come of one more character
abbrev pub IsRead : PropertyRead → Type 0
IsRead no_property_read = Unit {0}
IsRead (property_goes k) = IsPart k
IsRead (property_ends n e) = has_property_chars e ≡ true

-- characters of a property with one more of them are characters of a property
chars_push : (v : List ℕ) (c : ℕ) → are_property_chars v ≡ true → is_property_char c ≡ true → are_property_chars (v ++ c ∷ []) ≡ true
chars_push [] c h w = and_true _ _ w refl
chars_push (d ∷ v) c h w = and_true _ _ (and_left (is_property_char d) _ h) (chars_push v c (and_right (is_property_char d) _ h) w)

-- an expression of such characters, with one more of them, has such alone
with_char_formed : (e : Expression) (c : ℕ) → has_property_chars e ≡ true → is_property_char c ≡ true → has_property_chars (with_char e c) ≡ true
with_char_formed (alone v) c h w = chars_push v c h w
with_char_formed (valued n v) c h w =
    and_true _ _ (and_left (are_property_chars n) _ h) (chars_push v c (and_right (are_property_chars n) _ h) w)

-- what comes of a character behind the letter may have been read
brace_formed : (n b : Bool) → IsRead (on_brace n b)
brace_formed n false = tt
brace_formed n true = refl

-- and what comes of an equals sign in the braces
equals_formed : (n : Bool) (e : Expression) → has_property_chars e ≡ true → IsRead (on_equals n e)
equals_formed n (alone v) h = and_true _ _ h refl
equals_formed n (valued m v) h = tt

-- and what comes of any character there
in_braces_formed : (n : Bool) (e : Expression) (c : ℕ) (x y z : Bool) → has_property_chars e ≡ true → is_property_char c ≡ z
    → IsRead (in_braces_next n e c x y z)
in_braces_formed n e c true y z h w = h
in_braces_formed n e c false true z h w = equals_formed n e h
in_braces_formed n e c false false false h w = tt
in_braces_formed n e c false false true h w = with_char_formed e c h w

-- what comes of a character behind a part that may have been read is such a part or whole
pub property_formed : (k : PropertyPart) (c : ℕ) → IsPart k → IsRead (property_next k c)
property_formed (brace_awaited n) c h = brace_formed n (c == byte "{")
property_formed (in_braces n e) c h = in_braces_formed n e c _ _ _ h refl

-- the rest of a pattern that is read, behind a part of a property and behind a whole one
abbrev pub follow_property : {A : Type 0} → (PropertyPart → List ℕ → Option A) → (Bool → Expression → List ℕ → Option A) → PropertyRead → List ℕ
    → Option A
follow_property F G no_property_read cs = None
follow_property F G (property_goes k) cs = F k cs
follow_property F G (property_ends n e) cs = G n e cs

module _ {A : Type 0} (F : PropertyPart → List ℕ → Option A) (G : Bool → Expression → List ℕ → Option A)
    (turn : (k : PropertyPart) (c : ℕ) (cs : List ℕ) → F k (c ∷ cs) ≡ follow_property F G (property_next k c) cs) where
  -- in the braces a character that may stand in a property is read as one more
  reads_char : (n : Bool) (e : Expression) (c : ℕ) (cs : List ℕ) → is_property_char c ≡ true
      → F (in_braces n e) (c ∷ cs) ≡ F (in_braces n (with_char e c)) cs
  reads_char n e c cs h =
      turn (in_braces n e) c cs
      ∙ ap (λ (b : Bool). follow_property F G (in_braces_next n e c b (c == byte "=") (is_property_char c)) cs)
      (is_not is_property_char c (byte "}") _ refl h refl)
      ∙ ap (λ (b : Bool). follow_property F G (in_braces_next n e c false b (is_property_char c)) cs)
      (is_not is_property_char c (byte "=") _ refl h refl)
      ∙ ap (λ (b : Bool). follow_property F G (on_property_char n e c b) cs) h

  -- a name or a value, whose expression is made by g
  reads_chars : (n : Bool) (g : List ℕ → Expression) → ((u : List ℕ) (c : ℕ) → with_char (g u) c ≡ g (u ++ c ∷ []))
      → (u v : List ℕ) → are_property_chars v ≡ true → (cs : List ℕ) → F (in_braces n (g u)) (v ++ cs) ≡ F (in_braces n (g (u ++ v))) cs
  reads_chars n g grows u [] h cs = ap (λ (z : List ℕ). F (in_braces n (g z)) cs) (sym (append-nil u))
  reads_chars n g grows u (c ∷ v) h cs =
      reads_char n (g u) c (v ++ cs) (and_left (is_property_char c) _ h)
      ∙ ap (λ (z : Expression). F (in_braces n z) (v ++ cs)) (grows u c)
      ∙ reads_chars n g grows (u ++ c ∷ []) v (and_right (is_property_char c) _ h) cs
      ∙ ap (λ (z : List ℕ). F (in_braces n (g z)) cs) (append_assoc u (c ∷ []) v)

  -- behind the opening brace an expression is read from its spelling
  reads_expression : (n : Bool) (e : Expression) → has_property_chars e ≡ true → (cs : List ℕ)
      → F (in_braces n (alone [])) (expression_spelling e ++ cs) ≡ F (in_braces n e) cs
  reads_expression n (alone v) h cs = reads_chars n alone (λ u c. refl) [] v h cs
  reads_expression n (valued m v) h cs =
      ap (F (in_braces n (alone []))) (append_assoc m (byte "=" ∷ v) cs)
      ∙ reads_chars n alone (λ u c. refl) [] m (and_left (are_property_chars m) _ h) (byte "=" ∷ (v ++ cs))
      ∙ turn (in_braces n (alone m)) (byte "=") (v ++ cs)
      ∙ reads_chars n (valued m) (λ u c. refl) [] v (and_right (are_property_chars m) _ h) cs

  -- behind the letter a property is read from its spelling
  pub reads_property : (n : Bool) (e : Expression) → has_property_chars e ≡ true → (cs : List ℕ)
      → F (brace_awaited n) (byte "{" ∷ ((expression_spelling e ++ byte "}" ∷ []) ++ cs)) ≡ G n e cs
  reads_property n e h cs =
      turn (brace_awaited n) (byte "{") ((expression_spelling e ++ byte "}" ∷ []) ++ cs)
      ∙ ap (F (in_braces n (alone []))) (append_assoc (expression_spelling e) (byte "}" ∷ []) cs)
      ∙ reads_expression n e h (byte "}" ∷ cs) ∙ turn (in_braces n e) (byte "}") cs
