-- The strict form of a pattern, character by character.
use Rattle.std.proofs.Common.{◌≡◌, ℕ, ◌/◌, ◌%◌, Bool, true, false, if◌then◌else◌, ◌==◌, List, [], ◌∷◌, ◌++◌, sym, ap, ◌∙◌, append_assoc, Global, String, string_bytes}
use Rattle.std.specs.Char.{encode_utf8, digit_char, IsScalar}
use Rattle.std.specs.Str.{byte, chars}
use Rattle.std.proofs.lemmas.List.{append-nil}
use Rattle.std.proofs.lemmas.Str.{chars-append, chars_past_char, chars-nil, IsUtf8-encode, IsUtf8-string_bytes}
use Rattle.strkw_regex_grammar.specs.Codes.{code_spelling}
use Rattle.strkw_ecma.specs.Lenient.{is_lenient, byte_escape, escape_form, is_open, strict_from, strict_behind}
use Rattle.strkw_ecma.specs.machine.StrictForm.{appends}

-- a character alone
one_char : (c : ℕ) → IsScalar c → chars (encode_utf8 c) ≡ c ∷ []
one_char c s = chars_past_char (encode_utf8 c) [] c (IsUtf8-encode c s) (sym (append-nil (encode_utf8 c))) ∙ ap (λ z. c ∷ z) chars-nil

-- behind a text is behind its characters
pub pushed : (old new : String Global) (c : ℕ) → IsScalar c → string_bytes new ≡ string_bytes old ++ encode_utf8 c → appends old new (c ∷ [])
pushed old new c s e =
    ap chars e ∙ chars-append (string_bytes old) (encode_utf8 c) (IsUtf8-string_bytes old) ∙ ap (λ z. chars (string_bytes old) ++ z) (one_char c s)

-- an escape that is kept
pub kept_form : (a b e : String Global) (k : Bool) (c : ℕ) → is_lenient k c ≡ false → appends a b (byte "\\" ∷ []) → appends b e (c ∷ [])
    → appends a e (escape_form k c)
kept_form a b e k c w f g =
    g ∙ ap (λ z. z ++ c ∷ []) f ∙ append_assoc (chars (string_bytes a)) (byte "\\" ∷ []) (c ∷ [])
    ∙ ap (λ (t : Bool). chars (string_bytes a) ++ byte "\\" ∷ (if t then code_spelling (byte_escape c) else c ∷ [])) (sym w)

-- two that were appended one behind the other
appended : (a b e : String Global) (xs ys : List ℕ) → appends a b xs → appends b e ys → appends a e (xs ++ ys)
appended a b e xs ys f g = g ∙ ap (λ z. z ++ ys) f ∙ append_assoc (chars (string_bytes a)) xs ys

-- and one that is written by its number
pub byte_form : (a b d e f : String Global) (k : Bool) (c : ℕ) → is_lenient k c ≡ true → appends a b (byte "\\" ∷ []) → appends b d (byte "x" ∷ [])
    → appends d e (digit_char (c / 16) ∷ []) → appends e f (digit_char (c % 16) ∷ []) → appends a f (escape_form k c)
byte_form a b d e f k c w x y z u =
    appended a e f (byte "\\" ∷ byte "x" ∷ digit_char (c / 16) ∷ []) _
    (appended a d e (byte "\\" ∷ byte "x" ∷ []) _ (appended a b d (byte "\\" ∷ []) _ x y) z) u
    ∙ ap (λ (t : Bool). chars (string_bytes a) ++ byte "\\" ∷ (if t then code_spelling (byte_escape c) else c ∷ [])) (sym w)

-- behind a backslash a character comes with it
pub behind : (a b : String Global) (k : Bool) (c : ℕ) (rest : List ℕ) → appends a b (escape_form k c)
    → chars (string_bytes b) ++ strict_from k rest ≡ chars (string_bytes a) ++ strict_behind k (c ∷ rest)
behind a b k c rest e = ap (λ z. z ++ strict_from k rest) e ∙ append_assoc (chars (string_bytes a)) (escape_form k c) (strict_from k rest)

-- elsewhere it comes alone
pub beyond : (a b : String Global) (k : Bool) (c : ℕ) (rest : List ℕ) → c == byte "\\" ≡ false → appends a b (c ∷ [])
    → chars (string_bytes b) ++ strict_from (is_open k c) rest ≡ chars (string_bytes a) ++ strict_from k (c ∷ rest)
beyond a b k c rest w e =
    ap (λ z. z ++ strict_from (is_open k c) rest) e ∙ append_assoc (chars (string_bytes a)) (c ∷ []) (strict_from (is_open k c) rest)
    ∙ ap (λ (t : Bool). chars (string_bytes a) ++ (if t then strict_behind k rest else c ∷ strict_from (is_open k c) rest)) (sym w)

-- and a backslash waits for what is behind it
pub opened : (a : String Global) (k : Bool) (c : ℕ) (rest : List ℕ) → c == byte "\\" ≡ true
    → chars (string_bytes a) ++ strict_behind k rest ≡ chars (string_bytes a) ++ strict_from k (c ∷ rest)
opened a k c rest w =
    ap (λ (t : Bool). chars (string_bytes a) ++ (if t then strict_behind k rest else c ∷ strict_from (is_open k c) rest)) (sym w)

-- the end
pub ended : (text : List ℕ) → text ≡ text ++ []
ended text = sym (append-nil text)
