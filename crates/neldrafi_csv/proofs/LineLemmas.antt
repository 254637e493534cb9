-- Places behind bytes.
use Rattle.std.proofs.Common.{◌≡◌, ◌≤◌, ◌<◌, ◌+◌, ℕ, List, [], ◌∷◌, ◌++◌, take, drop, length, Bool, true, false, refl, sym, ap, arith, ◌∙◌, subst, add_assoc}
use Rattle.std.proofs.Common.{get_or, suc, take-add, zero}
use Rattle.std.specs.Prelude.{◌==◌, ◌^◌, ◌&&◌, ◌||◌, if◌then◌else◌}
use Rattle.std.proofs.Math.Dec.{eqb-suc-zero}
use Rattle.std.proofs.lemmas.List.{length-take, take-append-drop, take_more}
use Rattle.std.proofs.lemmas.List.Sums.{take_while-cons}
use Rattle.neldrafi_csv.specs.declared.place.Place.{Place}
use Rattle.neldrafi_csv.specs.Grammar.{is_line_byte}
use Rattle.neldrafi_csv.specs.Lines.{AreLineBytes, HasNoLineByte, blank_front, ends_in_cr, ends_line, line_ends, place_after}

-- as many lines end in joined bytes as in the first and, behind those, in the second
pub line_ends-append : (b : Bool) (x y : List ℕ) → line_ends b (x ++ y) ≡ line_ends b x + line_ends (ends_in_cr b x) y
unfolding line_ends ends_in_cr
line_ends-append b [] y = omega arith
line_ends-append b (c ∷ x) y = let more = line_ends-append (c == 13) x y in omega arith

-- a CR stands right behind joined bytes exactly where it does behind the second, behind the first
pub ends_in_cr-append : (b : Bool) (x y : List ℕ) → ends_in_cr b (x ++ y) ≡ ends_in_cr (ends_in_cr b x) y
unfolding ends_in_cr
ends_in_cr-append b [] y = refl
ends_in_cr-append b (c ∷ x) y = ends_in_cr-append (c == 13) x y

-- the place behind more bytes
-- is the place behind the second, from the place behind the first
pub place_after-append : (p : Place) (x y : List ℕ) → place_after p (x ++ y) ≡ place_after (place_after p x) y
place_after-append p x y =
    rw (line_ends-append p.after_cr x y, ends_in_cr-append p.after_cr x y, add_assoc p.line (line_ends p.after_cr x) (line_ends (ends_in_cr p.after_cr x) y))
    refl

-- the place behind no bytes is the same place
pub place_after-nil : (p : Place) → place_after p [] ≡ p
unfolding line_ends ends_in_cr
place_after-nil p = let none : p.line + 0 ≡ p.line = omega arith in rw none refl

-- no line is lost on the way
pub place_after-grows : (p : Place) (x y : List ℕ) → (place_after p x).line ≤ (place_after p (x ++ y)).line
place_after-grows p x y = let e = line_ends-append p.after_cr x y in omega arith

-- neither of two
-- is true, where it is false that one or the other is
pub neither : (p q : Bool) → (p || q) ≡ false → (p ≡ false) × (q ≡ false)
neither true q h = (h, cc)
neither false q h = (refl, h)

-- bytes that end no line
-- in them, no line ends
pub no_line-ends : (b : Bool) (x : List ℕ) → HasNoLineByte x → line_ends b x ≡ 0
unfolding line_ends
no_line-ends b [] h = refl
no_line-ends b (c ∷ x) h =
    let parts = neither (c == 13) (c == 10) h.0 in
    let more = no_line-ends false x h.1 in
    rw (parts.0, parts.1) (omega (arith, more))

-- behind them no CR stands, where none stands before them
no_line-false : (x : List ℕ) → HasNoLineByte x → ends_in_cr false x ≡ false
unfolding ends_in_cr
no_line-false [] h = refl
no_line-false (c ∷ x) h = let parts = neither (c == 13) (c == 10) h.0 in rw parts.0 (no_line-false x h.1)

-- a truth value and true is that truth value
and-true : (b : Bool) → b ≡ (b && true)
and-true true = refl
and-true false = refl

-- and a truth value and false is false
and-false : (b : Bool) → false ≡ (b && false)
and-false true = refl
and-false false = refl

-- a CR stands right behind them exactly where one stands before them and they are none
no_line-cr : (b : Bool) (count : ℕ) (x : List ℕ) → HasNoLineByte x → count ≡ length x → ends_in_cr b x ≡ (b && (count == 0))
unfolding ends_in_cr
no_line-cr b count [] h e = rw e (and-true b)
no_line-cr b count (c ∷ x) h e =
    let parts = neither (c == 13) (c == 10) h.0 in
    rw (parts.0, e, eqb-suc-zero (length x)) (no_line-false x h.1 ∙ and-false b)

-- the place behind bytes that end no line
-- has the same line, and is behind a CR exactly where it was and the bytes are none
pub place_after-plain : (p : Place) (count : ℕ) (b : Bool) (x : List ℕ) → b ≡ (p.after_cr && (count == 0)) → HasNoLineByte x → count ≡ length x
    → record { line = p.line; after_cr = b } ≡ place_after p x
place_after-plain p count b x is h e =
    let none : p.line + 0 ≡ p.line = omega arith in rw (no_line-ends p.after_cr x h, no_line-cr p.after_cr count x h e, none, is) refl

-- one more byte at the end of a run
-- bytes that are all parts of line ends, and one more such byte, are all such parts
pub are_line_bytes-more : (x : List ℕ) (c : ℕ) → AreLineBytes x → is_line_byte c ≡ true → AreLineBytes (x ++ (c ∷ []))
are_line_bytes-more [] c h e = (e, tt)
are_line_bytes-more (d ∷ x) c h e = (h.0, are_line_bytes-more x c h.1 e)

-- and so are two runs of such bytes
pub are_line_bytes-append : (x y : List ℕ) → AreLineBytes x → AreLineBytes y → AreLineBytes (x ++ y)
are_line_bytes-append [] y h k = k
are_line_bytes-append (c ∷ x) y h k = (h.0, are_line_bytes-append x y h.1 k)

-- bytes that are no parts of line ends, and one more such byte, are none
pub has_no_line_byte-more : (x : List ℕ) (c : ℕ) → HasNoLineByte x → is_line_byte c ≡ false → HasNoLineByte (x ++ (c ∷ []))
has_no_line_byte-more [] c h e = (e, tt)
has_no_line_byte-more (d ∷ x) c h e = (h.0, has_no_line_byte-more x c h.1 e)

-- and so are two runs of such bytes
pub has_no_line_byte-append : (x y : List ℕ) → HasNoLineByte x → HasNoLineByte y → HasNoLineByte (x ++ y)
has_no_line_byte-append [] y h k = k
has_no_line_byte-append (c ∷ x) y h k = (h.0, has_no_line_byte-append x y h.1 k)

-- the blank lines at the front end at a byte that ends no line
pub blank_front-run : (x : List ℕ) (c : ℕ) (rest : List ℕ) → AreLineBytes x → is_line_byte c ≡ false → blank_front (x ++ (c ∷ rest)) ≡ x
blank_front-run [] c rest h e = take_while-cons is_line_byte c rest ∙ rw e refl
blank_front-run (d ∷ x) c rest h e =
    take_while-cons is_line_byte d (x ++ (c ∷ rest)) ∙ rw h.0 (ap (λ (l : List ℕ). d ∷ l) (blank_front-run x c rest h.1 e))

-- or at the end of the text
pub blank_front-all : (x : List ℕ) → AreLineBytes x → blank_front x ≡ x
blank_front-all [] h = refl
blank_front-all (d ∷ x) h = take_while-cons is_line_byte d x ∙ rw h.0 (ap (λ (l : List ℕ). d ∷ l) (blank_front-all x h.1))

-- the place behind one more byte
-- has one more line where the byte ends one, and is behind a CR exactly where the byte is one
pub place_after-one : (p : Place) (c : ℕ) → place_after p (c ∷ []) ≡ record { line = p.line + (if ends_line p.after_cr c then 1 else 0); after_cr = c == 13 }
unfolding line_ends ends_in_cr
place_after-one p c =
    let none : (if ends_line p.after_cr c then 1 else 0) + 0 ≡ (if ends_line p.after_cr c then 1 else 0) = omega arith in rw none refl

-- it has the same line, where the byte ends none
pub place_after-same : (p : Place) (c : ℕ) → ends_line p.after_cr c ≡ false → record { line = p.line; after_cr = c == 13 } ≡ place_after p (c ∷ [])
place_after-same p c e = let none : p.line + 0 ≡ p.line = omega arith in rw (place_after-one p c, e, none) refl

-- it has the next line, where the byte ends one
pub place_after-next : (p : Place) (c line : ℕ) → ends_line p.after_cr c ≡ true → line ≡ p.line + 1
    → record { line = line; after_cr = c == 13 } ≡ place_after p (c ∷ [])
place_after-next p c line e k = rw (place_after-one p c, e, k) refl

-- its line is past a `u64`, where the byte ends one and the next is past it
pub place_after-past : (p : Place) (c : ℕ) → ends_line p.after_cr c ≡ true → 2 ^ 64 ≤ p.line + 1 → 2 ^ 64 ≤ (place_after p (c ∷ [])).line
place_after-past p c e k =
    let line : (place_after p (c ∷ [])).line ≡ p.line + 1 = rw e at (ap (λ (q : Place). q.line) (place_after-one p c)) in omega (arith, line, k)

-- the place behind one more of the bytes
-- is the place to which that byte leads from the place behind those before it
pub place_after-more : (p q r : Place) (bytes : List ℕ) (i c : ℕ) → q ≡ place_after p (take i bytes) → i < length bytes → c ≡ get_or bytes i 0
    → r ≡ place_after q (c ∷ []) → r ≡ place_after p (take (i + 1) bytes)
place_after-more p q r bytes i c at lt is k =
    let front : take (i + 1) bytes ≡ take i bytes ++ (c ∷ []) = rw is (take_more bytes i 0 lt) in
    let both : place_after p (take (i + 1) bytes) ≡ place_after q (c ∷ []) =
    ap (λ (l : List ℕ). place_after p l) front ∙ place_after-append p (take i bytes) (c ∷ []) ∙ ap (λ (z : Place). place_after z (c ∷ [])) (sym at)
    in k ∙ sym both

-- a line past a `u64` behind some of the bytes is past it behind all
pub place_after-past_all : (p q : Place) (bytes : List ℕ) (i c : ℕ) → q ≡ place_after p (take i bytes) → i < length bytes → c ≡ get_or bytes i 0
    → 2 ^ 64 ≤ (place_after q (c ∷ [])).line → 2 ^ 64 ≤ (place_after p bytes).line
place_after-past_all p q bytes i c at lt is past =
    let here = ap (λ (z : Place). z.line) (place_after-more p q (place_after q (c ∷ [])) bytes i c at lt is refl) in
    let grows = place_after-grows p (take (i + 1) bytes) (drop (i + 1) bytes) in
    let whole = ap (λ (l : List ℕ). (place_after p l).line) (take-append-drop (i + 1) bytes) in
    omega (arith, here, grows, whole, past)

-- the blank lines at the front, and what stands behind them
-- the blank lines at the front are parts of line ends alone
pub blank_front-lines : (text : List ℕ) → AreLineBytes (blank_front text)
blank_front-lines [] = tt
blank_front-lines (d ∷ text) = by (is_line_byte d) refl (blank_front-lines text)
  where
    by : (b : Bool) → is_line_byte d ≡ b → AreLineBytes (blank_front text) → AreLineBytes (blank_front (d ∷ text))
    by true e more = let front : d ∷ blank_front text ≡ blank_front (d ∷ text) = sym (take_while-cons is_line_byte d text
        ∙ rw e refl) in subst (λ (l : List ℕ). AreLineBytes l) front (e, more)
    by false e more = let front : [] ≡ blank_front (d ∷ text) = sym (take_while-cons is_line_byte d text
        ∙ rw e refl) in subst (λ (l : List ℕ). AreLineBytes l) front tt

-- and the byte right behind them is no such part
pub blank_front-next : (text : List ℕ) (c : ℕ) (rest : List ℕ) → text ≡ blank_front text ++ (c ∷ rest) → is_line_byte c ≡ false
blank_front-next [] c rest h = cc h
blank_front-next (d ∷ text) c rest h = by (is_line_byte d) refl (blank_front-next text c rest)
  where
    by : (b : Bool) → is_line_byte d ≡ b → (text ≡ blank_front text ++ (c ∷ rest) → is_line_byte c ≡ false) → is_line_byte c ≡ false
    by true e more =
        let front : blank_front (d ∷ text) ≡ d ∷ blank_front text = take_while-cons is_line_byte d text ∙ rw e refl in
        let whole : d ∷ text ≡ d ∷ (blank_front text ++ (c ∷ rest)) = h ∙ ap (λ (l : List ℕ). l ++ (c ∷ rest)) front in
        let left : text ≡ blank_front text ++ (c ∷ rest) = cc in more left
    by false e more =
        let front : blank_front (d ∷ text) ≡ [] = take_while-cons is_line_byte d text ∙ rw e refl in
        let whole : d ∷ text ≡ c ∷ rest = h ∙ ap (λ (l : List ℕ). l ++ (c ∷ rest)) front in
        let same : d ≡ c = cc in rw (← same) e

-- the place behind more of the bytes, of which none ends a line
-- is the place to which these lead from the place behind those before them
pub place_after-run : (p q r : Place) (bytes rest : List ℕ) (at n : ℕ) → q ≡ place_after p (take at bytes) → rest ≡ drop at bytes
    → r ≡ place_after q (take n rest)
    → r ≡ place_after p (take (at + n) bytes)
place_after-run p q r bytes rest at n is e k =
    k ∙ ap (λ (z : Place). place_after z (take n rest)) is ∙ ap (λ (l : List ℕ). place_after (place_after p (take at bytes)) (take n l)) e
    ∙ sym (ap (λ (l : List ℕ). place_after p l) (take-add at n bytes) ∙ place_after-append p (take at bytes) (take n (drop at bytes)))

-- the blank lines at the front are so many bytes, where these are parts of line ends, and the next is none
pub blank_front-counted : (text : List ℕ) (n : ℕ) → n ≤ length text → AreLineBytes (take n text)
    → (n < length text → is_line_byte (get_or text n 0) ≡ false) → length (blank_front text) ≡ n
blank_front-counted [] zero l h s = refl
blank_front-counted [] (suc n) l h s = omega (arith, l)
blank_front-counted (c ∷ x) zero l h s =
    let other : is_line_byte c ≡ false = s (omega arith) in
    let none : blank_front (c ∷ x) ≡ [] = take_while-cons is_line_byte c x ∙ rw other refl in
    rw none refl
blank_front-counted (c ∷ x) (suc n) l h s =
    let more = blank_front-counted x n (omega arith) h.1 (λ a. s (omega arith)) in
    let one : blank_front (c ∷ x) ≡ c ∷ blank_front x = take_while-cons is_line_byte c x ∙ rw h.0 refl in
    rw one (omega (arith, more))

-- each of some bytes that are no parts of line ends is none
pub has_no_line_byte-at : (x : List ℕ) (i : ℕ) → HasNoLineByte x → i < length x → is_line_byte (get_or x i 0) ≡ false
has_no_line_byte-at [] i h less = absurd (omega (arith, less))
has_no_line_byte-at (c ∷ x) zero h less = h.0
has_no_line_byte-at (c ∷ x) (suc i) h less = has_no_line_byte-at x i h.1 (omega arith)

-- a front of so many bytes has that length, if there are as many
pub take-length : (n : ℕ) (xs : List ℕ) → n ≤ length xs → n ≡ length (take n xs)
take-length n xs h = let e = length-take n xs in omega (arith, e)
