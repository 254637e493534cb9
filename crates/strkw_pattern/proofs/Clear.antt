-- Bytes by which no white space begins: where they end, a character does, and none of theirs is white space.
use Rattle.std.proofs.Common.{◌≡◌, ℕ, ◌<◌, ◌≤◌, ◌+◌, ◌/◌, Bool, true, false, ◌&&◌, ◌||◌, nat_lt, List, [], ◌∷◌, ◌++◌, length, take, drop, IsTrue, IsUtf8}
use Rattle.std.proofs.Common.{slice_index, refl, sym, ap, ◌∙◌, arith}
use Rattle.std.specs.List.{list_all, list_any}
use Rattle.std.specs.Char.{encode_utf8}
use Rattle.std.specs.Str.{IsCharBoundary, chars, encode_utf8_all}
use Rattle.std.proofs.lemmas.Bool.Decides.{nat_tests}
use Rattle.std.proofs.lemmas.List.{drop-take, take-append-drop, take-take}
use Rattle.std.proofs.lemmas.List.Folds.{list_any-append}
use Rattle.std.proofs.lemmas.Str.{IsUtf8-take, chars-append, encodes-chars}
use Rattle.strkw_pattern.specs.Whitespace.{is_ecma_whitespace, is_solid, may_begin}

-- of two tests of which neither holds, neither holds
neither : (a b : Bool) → (a || b) ≡ false → (a ≡ false) × (b ≡ false)
neither false b h = (refl, h)
neither true b h = (h, absurd (let u : ⊥ = cc in u))

-- an ASCII character that does not begin white space is none
clear_ascii : (c : ℕ) → nat_lt c 128 ≡ true → may_begin c ≡ false → is_ecma_whitespace c ≡ false
clear_ascii c small h = grind (arith, nat_tests)

-- nor is a character of two bytes, by the first of them
clear_two : (c : ℕ) → nat_lt c 128 ≡ false → nat_lt c 2048 ≡ true → may_begin (192 + c / 64) ≡ false → is_ecma_whitespace c ≡ false
clear_two c large small h = grind (arith, nat_tests)

-- nor one of three
clear_three : (c : ℕ) → nat_lt c 2048 ≡ false → nat_lt c 65536 ≡ true → may_begin (224 + c / 4096) ≡ false → is_ecma_whitespace c ≡ false
clear_three c large small h = grind (arith, nat_tests)

-- and no character of four bytes is white space
clear_four : (c : ℕ) → nat_lt c 65536 ≡ false → is_ecma_whitespace c ≡ false
clear_four c large = grind (arith, nat_tests)

-- a character by none of whose bytes white space begins is none
-- by the length of its encoding
clear_char : (c : ℕ) (one two three : Bool) → nat_lt c 128 ≡ one → nat_lt c 2048 ≡ two → nat_lt c 65536 ≡ three
    → list_any may_begin (encode_utf8 c) ≡ false → is_ecma_whitespace c ≡ false
unfolding encode_utf8
clear_char c true two three e1 e2 e3 h = clear_ascii c e1 (neither _ _ (rw e1 at h)).0
clear_char c false true three e1 e2 e3 h = clear_two c e1 e2 (neither _ _ (rw (e1, e2) at h)).0
clear_char c false false true e1 e2 e3 h = clear_three c e2 e3 (neither _ _ (rw (e1, e2, e3) at h)).0
clear_char c false false false e1 e2 e3 h = clear_four c e3

-- and so of all characters of a text
clear_encodes : (cs : List ℕ) → list_any may_begin (encode_utf8_all cs) ≡ false → list_any is_ecma_whitespace cs ≡ false
clear_encodes [] h = refl
clear_encodes (c ∷ cs) h =
    let both = neither _ _ (sym (list_any-append may_begin (encode_utf8 c) (encode_utf8_all cs)) ∙ h) in
    rw (clear_char c _ _ _ refl refl refl both.0, clear_encodes cs both.1) refl

-- a text without characters has no bytes
pub nothing_left : (text : List ℕ) → IsUtf8 text → chars text ≡ [] → length text ≡ 0
nothing_left text utf8 none = ap length (sym (encodes-chars text utf8) ∙ ap encode_utf8_all none)

-- a text that begins with white space has some
pub any_first : (text : List ℕ) (c : ℕ) (rest : List ℕ) → chars text ≡ c ∷ rest → is_ecma_whitespace c ≡ true → list_any is_ecma_whitespace (chars text) ≡ true
any_first text c rest e h = rw (e, h) refl

-- and behind another character the rest decides
pub any_later : (text : List ℕ) (c : ℕ) (rest : List ℕ) → chars text ≡ c ∷ rest → is_ecma_whitespace c ≡ false
    → list_any is_ecma_whitespace (chars text) ≡ list_any is_ecma_whitespace rest
any_later text c rest e h = rw (e, h) refl

-- the byte behind clear ones begins a character
pub clear_ends : (text : List ℕ) (n : ℕ) → n ≤ length text → (n < length text → IsTrue (may_begin (slice_index text n))) → IsCharBoundary text n
clear_ends text n within stops = (within, λ inside wide. let begins = stops inside in grind (arith, nat_tests))

-- and what follows them decides
pub behind_clear : (text : List ℕ) (n : ℕ) → IsUtf8 text → IsCharBoundary text n → list_any may_begin (take n text) ≡ false
    → list_any is_ecma_whitespace (chars text) ≡ list_any is_ecma_whitespace (chars (drop n text))
behind_clear text n utf8 ends clear =
    let front = IsUtf8-take text n utf8 ends in
    let none : list_any is_ecma_whitespace (chars (take n text)) ≡ false =
    clear_encodes (chars (take n text)) (ap (list_any may_begin) (encodes-chars (take n text) front) ∙ clear) in
    ap (λ t. list_any is_ecma_whitespace (chars t)) (sym (take-append-drop n text))
    ∙ ap (list_any is_ecma_whitespace) (chars-append (take n text) (drop n text) front)
    ∙ list_any-append is_ecma_whitespace (chars (take n text)) (chars (drop n text))
    ∙ ap (λ t. t || list_any is_ecma_whitespace (chars (drop n text))) none

-- so many elements of a list, and so many more, are those and these
take_on : (n m : ℕ) (xs : List ℕ) → take (n + m) xs ≡ take n xs ++ take m (drop n xs)
take_on n m xs = sym (take-append-drop n (take (n + m) xs)) ∙ ap (λ (x : List ℕ). x ++ drop n (take (n + m) xs)) (take-take n (n + m) xs (omega arith))
    ∙ ap (λ (x : List ℕ). take n xs ++ x) (drop-take n m xs)

-- no white space begins by clear bytes and some more that are clear
pub one_more_block : (bytes : List ℕ) (n m : ℕ) → list_any may_begin (take n bytes) ≡ false → list_any may_begin (take m (drop n bytes)) ≡ false
    → list_any may_begin (take (n + m) bytes) ≡ false
one_more_block bytes n m front more =
    ap (list_any may_begin) (take_on n m bytes) ∙ list_any-append may_begin (take n bytes) (take m (drop n bytes)) ∙ rw (front, more) refl

-- of two tests of which both hold, each holds
each_of : (a b : Bool) → (a && b) ≡ true → (a ≡ true) × (b ≡ true)
each_of true b h = (refl, h)
each_of false b h = (h, absurd (let u : ⊥ = cc in u))

-- by a solid byte no white space begins
solid_byte : (b : ℕ) → is_solid b ≡ true → may_begin b ≡ false
solid_byte b h = grind (arith, nat_tests)

-- nor by one of several
pub solid_bytes : (bytes : List ℕ) → list_all is_solid bytes ≡ true → list_any may_begin bytes ≡ false
solid_bytes [] h = refl
solid_bytes (b ∷ bytes) h =
    let both = each_of (is_solid b) (list_all is_solid bytes) h in
    rw (solid_byte b both.0, solid_bytes bytes both.1) refl
