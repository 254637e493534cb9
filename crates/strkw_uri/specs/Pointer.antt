-- JSON pointers, RFC 6901 section 3, and relative JSON pointers,
-- draft-handrews-relative-json-pointer-02 section 3: a whole number before them. Above each form
-- stands its rule.
use Rattle.std.specs.Prelude.{◌≡◌, ◌↔◌, ◌⊎◌, ℕ, Bool, not, List, [], ◌∷◌, codes}
use Rattle.std.specs.Str.{byte}
use Rattle.strkw_text.specs.Abnf.{Form, ◌⨾◌, ◌∣◌, Literal, Repeat, OneOf}
use Rattle.strkw_text.specs.Characters.{is_one_of, is_from_to, Digit}

-- unescaped = %x00-2E / %x30-7D / %x7F-10FFFF: any character but "/" and "~"
abbrev pub is_unescaped : ℕ → Bool
is_unescaped c = not (is_one_of (codes "/~") c)

-- escaped = "~" ( "0" / "1" )
abbrev pub Escaped : Form
Escaped = Literal (codes "~") ⨾ OneOf (is_one_of (codes "01"))

-- reference-token = *( unescaped / escaped )
abbrev pub ReferenceToken : Form
ReferenceToken = Repeat (OneOf is_unescaped ∣ Escaped)

-- json-pointer = *( "/" reference-token )
abbrev pub IsJsonPointer : Form
IsJsonPointer = Repeat (Literal (codes "/") ⨾ ReferenceToken)

-- non-negative-integer = %x30 / %x31-39 *( %x30-39 )
abbrev pub NonNegativeInteger : Form
NonNegativeInteger = Literal (codes "0") ∣ OneOf (is_from_to (byte "1") (byte "9")) ⨾ Repeat Digit

-- relative-json-pointer = non-negative-integer ( "#" / json-pointer )
abbrev pub IsRelativeJsonPointer : Form
IsRelativeJsonPointer = NonNegativeInteger ⨾ (Literal (codes "#") ∣ IsJsonPointer)

-- "0" and then p, which is empty or begins with a slash, is a relative pointer exactly where p is a
-- pointer
abbrev pub ZeroThenPointer : Type 0
ZeroThenPointer = (p : List ℕ) → (p ≡ []) ⊎ ((rest : List ℕ) × (p ≡ byte "/" ∷ rest))
    → IsRelativeJsonPointer (byte "0" ∷ p) ↔ IsJsonPointer p
