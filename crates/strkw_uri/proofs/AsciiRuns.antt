-- Runs of ASCII characters, from the bytes.
use Rattle.std.proofs.Common.{◌≡◌, ℕ, ◌+◌, ◌<◌, ◌≤◌, Bool, true, false, ◌||◌, ◌&&◌, not, ltb, eqb, ◌==◌, zero, suc, List, [], ◌∷◌, ◌++◌, length, get_or, drop}
use Rattle.std.proofs.Common.{IsUtf8, encode_utf8, encode_utf8_all, codes, inl, inr, Some, None, refl, sym, ap, subst, ◌∙◌, arith, append_assoc}
use Rattle.std.specs.Char.{is_ascii_hexdigit}
use Rattle.std.specs.Str.{chars}
use Rattle.std.proofs.lemmas.Str.{chars_past_char, IsUtf8-past_char, encode_ascii, encodes-chars}
use Rattle.std.proofs.lemmas.List.{drop_more, get_or-drop, length-drop, get_or_past}
use Rattle.std.specs.List.{slice_get}
use Rattle.std.proofs.lemmas.Option.{slice_get_within, get_or_from_slice_get, slice_get-get_or}
use Rattle.std.proofs.lemmas.Bool.{agree_below, agree_below_at, ltb-true, cases_lt, eqb-true, or_right, or_parts, and_parts}
use Rattle.std.proofs.lemmas.Bool.Decides.{nat_tests}
use Rattle.strkw_text.specs.Abnf.{Form, Repeat, OneOf}
use Rattle.strkw_text.specs.Fronts.{StartsWith, StartsWithNo, RunThen, NotFirst}
use Rattle.strkw_text.proofs.Laws.{Repeat-append, Repeat-weaker, starts_one}
use Rattle.strkw_text.proofs.Runs.{run_start, run_push, then_start, one_stops, no_start_either, start_right}
use Rattle.strkw_text.specs.Characters.{is_one_of, HexDigit}
use Rattle.strkw_uri.specs.Characters.{is_unreserved, is_sub_delim, is_ucschar, is_iprivate}
use Rattle.strkw_uri.specs.Lanes.{is_in, is_escape_at, goes_on, IsRun}
use Rattle.strkw_uri.specs.Scan.{is_part_char, is_wide_part_char, is_class_char}
use Rattle.strkw_uri.specs.Uri.{PctEncoded, Encoded}
use Rattle.strkw_uri.specs.declared.part.Syntax.{Syntax}
use Rattle.strkw_uri.specs.declared.part.Syntax.TheVariants.{Rfc3986, Rfc3987}
use Rattle.strkw_uri.specs.declared.part.Part.{Part}
use Rattle.strkw_uri.specs.declared.part.Part.TheVariants.{RegNameChar, UserinfoChar, PathChar, SegmentNcChar, QueryChar, FragmentChar}
use Rattle.strkw_uri.specs.declared.scan.Class.{Class}
use Rattle.strkw_uri.specs.declared.scan.Class.TheVariants.{Letter, SchemeChar, Decimal, NonzeroDecimal, Hexadecimal, ZeroOrOne, VersionLetter, FutureChar}
use Rattle.strkw_uri.specs.declared.scan.Class.TheVariants.{OperatorChar, NameChar}
use Rattle.strkw_uri.proofs.Encodings.{encoded_char, encoded_pct, first_of_pct}
use Rattle.strkw_uri.proofs.Paths.{or_other}

-- so many bytes are characters of the class or percent-encoded ones
pub record AsciiFront (class : ℕ → Bool) (bs : List ℕ) (n : ℕ) : Type 0 where
  pub utf8 : IsUtf8 (drop n bs)
  pub run : StartsWith (Repeat (Encoded class)) (chars bs) (chars (drop n bs))

-- a byte that is a character
pub record Byte (bs : List ℕ) (n : ℕ) : Type 0 where
  pub utf8 : IsUtf8 (drop (n + 1) bs)
  pub is : chars (drop n bs) ≡ get_or bs n 0 ∷ chars (drop (n + 1) bs)

-- a byte below 128, where the rest from it on is UTF-8, is a character
pub one_byte : (bs : List ℕ) (n : ℕ) → IsUtf8 (drop n bs) → n < length bs → get_or bs n 0 < 128 → Byte bs n
one_byte bs n u l small =
    let c = get_or bs n 0 in
    let one : drop n bs ≡ encode_utf8 c ++ drop (n + 1) bs = drop_more bs n 0 l ∙ ap (λ s. s ++ drop (n + 1) bs) (sym (encode_ascii c small)) in
    record { utf8 = IsUtf8-past_char (drop n bs) (drop (n + 1) bs) c u one; is = chars_past_char (drop n bs) (drop (n + 1) bs) c u one }

-- one more ASCII character of the class lengthens the front by a byte
one_more : (class : ℕ → Bool) (bs : List ℕ) (n : ℕ) → AsciiFront class bs n → n < length bs → get_or bs n 0 < 128 → class (get_or bs n 0) ≡ true
    → AsciiFront class bs (n + 1)
one_more class bs n f l small h =
    let b = one_byte bs n f.utf8 l small in
    record { utf8 = b.utf8; run = run_push (Encoded class) (chars bs) _ _ f.run (encoded_char class (get_or bs n 0) _ _ b.is h) }

-- a hexadecimal digit is an ASCII character
hex_small : (c : ℕ) → is_ascii_hexdigit c ≡ true → c < 128
hex_small c h = grind (arith, nat_tests)

-- an escape's three bytes
record Escape (bs : List ℕ) (n : ℕ) : Type 0 where
  percent : get_or bs n 0 ≡ 37
  high : is_ascii_hexdigit (get_or bs (n + 1) 0) ≡ true
  low : is_ascii_hexdigit (get_or bs (n + 2) 0) ≡ true

-- where an escape stands, these are its bytes
escape_parts : (bs : List ℕ) (n : ℕ) → is_escape_at bs n ≡ true → Escape bs n
escape_parts bs n h =
    let e = eqb (get_or bs n 0) 37 in
    let a = is_ascii_hexdigit (get_or bs (n + 1) 0) in
    let b = is_ascii_hexdigit (get_or bs (n + 2) 0) in
    let last = and_parts (e && a) b h in
    let front = and_parts e a last.0 in
    record { percent = eqb-true (get_or bs n 0) 37 front.0; high = front.1; low = last.1 }

-- one more escape lengthens the front by three bytes
escape_more : (class : ℕ → Bool) (bs : List ℕ) (n : ℕ) → AsciiFront class bs n → n + 3 ≤ length bs → is_escape_at bs n ≡ true → AsciiFront class bs (n + 3)
escape_more class bs n f l h =
    let x = escape_parts bs n h in
    let e : n + 2 ≡ n + 1 + 1 = omega arith in
    let low : is_ascii_hexdigit (get_or bs (n + 1 + 1) 0) ≡ true = ap (λ k. is_ascii_hexdigit (get_or bs k 0)) (sym e) ∙ x.low in
    let p = one_byte bs n f.utf8 (omega arith) (omega (arith, x.percent)) in
    let a = one_byte bs (n + 1) p.utf8 (omega arith) (hex_small (get_or bs (n + 1) 0) x.high) in
    let b = one_byte bs (n + 1 + 1) a.utf8 (omega arith) (hex_small (get_or bs (n + 1 + 1) 0) low) in
    let up : n + 1 + 1 + 1 ≡ n + 3 = omega arith in
    subst (AsciiFront class bs) up (record {
      utf8 = b.utf8;
      run = run_push (Encoded class) (chars bs) _ _ f.run (encoded_pct class _ _ _ (p.is ∙ ap (λ c. c ∷ chars (drop (n + 1) bs)) x.percent)
          (then_start HexDigit HexDigit _ _ _ (starts_one is_ascii_hexdigit _ _ _ x.high a.is) (starts_one is_ascii_hexdigit _ _ _ low b.is)));
    })

-- where `not a || b` and a hold, so does b
pub implied : (a b : Bool) → not a || b ≡ true → a ≡ true → b ≡ true
implied true b h e = h
implied false b h e = cc

-- the classes of RFC 3986 are ASCII
-- of the bytes, those of such a class are below 128
part_small_below : (p : Part) (c : ℕ) → c < 256 → is_part_char Rfc3986 p c ≡ true → c < 128
part_small_below p c l h = ltb-true c 128 (implied (is_part_char Rfc3986 p c) (ltb c 128)
    (agree_below_at (λ d. not (is_part_char Rfc3986 p d) || ltb d 128) (λ _. true) 256 c (all p) l) h)
  where
    all : (p : Part) → agree_below (λ d. not (is_part_char Rfc3986 p d) || ltb d 128) (λ _. true) 256 ≡ true
    all RegNameChar = refl
    all UserinfoChar = refl
    all PathChar = refl
    all SegmentNcChar = refl
    all QueryChar = refl
    all FragmentChar = refl

-- no number past the bytes is of such a class
part_not_big : (p : Part) (c : ℕ) → 256 ≤ c → is_part_char Rfc3986 p c ≡ true → ⊥
part_not_big RegNameChar c g h = grind (arith, nat_tests)
part_not_big UserinfoChar c g h = grind (arith, nat_tests)
part_not_big PathChar c g h = grind (arith, nat_tests)
part_not_big SegmentNcChar c g h = grind (arith, nat_tests)
part_not_big QueryChar c g h = grind (arith, nat_tests)
part_not_big FragmentChar c g h = grind (arith, nat_tests)

-- each character of such a class is below 128
pub part_small : (p : Part) (c : ℕ) → is_part_char Rfc3986 p c ≡ true → c < 128
part_small p c h = elim (cases_lt c 256) [ inl l ↦ part_small_below p c l h | inr g ↦ absurd (part_not_big p c g h) ]

-- a class is its ASCII characters and those past ASCII
-- nothing changes by an or with false
or_false : (a : Bool) → a ≡ a || false
or_false true = refl
or_false false = refl

-- of three that are joined by or, the second may stand last
with_wide : (u w d : Bool) → (u || w) || d ≡ (u || d) || w
with_wide true w d = refl
with_wide false true true = refl
with_wide false true false = refl
with_wide false false true = refl
with_wide false false false = refl

-- the same of the second of four
with_wide_more : (u w d x : Bool) → ((u || w) || d) || x ≡ ((u || d) || x) || w
with_wide_more true w d x = refl
with_wide_more false true true x = refl
with_wide_more false true false true = refl
with_wide_more false true false false = refl
with_wide_more false false true x = refl
with_wide_more false false false true = refl
with_wide_more false false false false = refl

-- the same of the second of five
with_wide_two : (u w d x y : Bool) → (((u || w) || d) || x) || y ≡ (((u || d) || x) || y) || w
with_wide_two u w d x y = ap (λ b. b || y) (with_wide_more u w d x) ∙ with_wide (((u || d) || x)) w y

-- a part's class is that of RFC 3986 and the syntax's characters past ASCII
pub part_split : (s : Syntax) (p : Part) (c : ℕ) → is_part_char s p c ≡ is_part_char Rfc3986 p c || is_wide_part_char s p c
part_split Rfc3986 p c = or_false (is_part_char Rfc3986 p c)
part_split Rfc3987 RegNameChar c = with_wide (is_unreserved c) (is_ucschar c) (is_sub_delim c)
part_split Rfc3987 UserinfoChar c = with_wide_more (is_unreserved c) (is_ucschar c) (is_sub_delim c) (c == 58)
part_split Rfc3987 PathChar c = with_wide_two (is_unreserved c) (is_ucschar c) (is_sub_delim c) (is_one_of (codes ":@") c) (c == 47)
part_split Rfc3987 SegmentNcChar c = with_wide_more (is_unreserved c) (is_ucschar c) (is_sub_delim c) (c == 64)
part_split Rfc3987 QueryChar c = query (is_unreserved c) (is_ucschar c) (is_sub_delim c) (is_one_of (codes ":@") c) (is_one_of (codes "/?") c) (is_iprivate c)
  where
    query : (u w d x y z : Bool) → ((((u || w) || d) || x) || y) || z ≡ ((((u || d) || x) || y) || false) || (w || z)
    query u w d x y z = ap (λ b. b || z) (with_wide_two u w d x y) ∙ join (((u || d) || x) || y) w z
      where
        join : (a w z : Bool) → (a || w) || z ≡ (a || false) || (w || z)
        join true w z = refl
        join false true z = refl
        join false false z = refl
part_split Rfc3987 FragmentChar c = with_wide_two (is_unreserved c) (is_ucschar c) (is_sub_delim c) (is_one_of (codes ":@") c) (is_one_of (codes "/?") c)

-- a character of RFC 3986's class of a part is of the class of either syntax
pub part_from_ascii : (s : Syntax) (p : Part) (c : ℕ) → is_part_char Rfc3986 p c ≡ true → is_part_char s p c ≡ true
part_from_ascii s p c h = part_split s p c ∙ ap (λ b. b || is_wide_part_char s p c) h

-- a character past ASCII that the syntax has for a part is of its class
pub part_from_wide : (s : Syntax) (p : Part) (c : ℕ) → is_wide_part_char s p c ≡ true → is_part_char s p c ≡ true
part_from_wide s p c h = part_split s p c ∙ or_right (is_part_char Rfc3986 p c) (is_wide_part_char s p c) h

-- a character that is neither is not of the class
pub part_neither : (s : Syntax) (p : Part) (c : ℕ) → is_part_char Rfc3986 p c ≡ false → is_wide_part_char s p c ≡ false → is_part_char s p c ≡ false
part_neither s p c h k = part_split s p c ∙ ap (λ b. b || is_wide_part_char s p c) h ∙ k

-- hexadecimal digits are of each class
hex_in_part : (p : Part) (c : ℕ) → is_ascii_hexdigit c ≡ true → is_part_char Rfc3986 p c ≡ true
hex_in_part p c h = implied (is_ascii_hexdigit c) (is_part_char Rfc3986 p c)
    (agree_below_at (λ d. not (is_ascii_hexdigit d) || is_part_char Rfc3986 p d) (λ _. true) 128 c (all p) (hex_small c h)) h
  where
    all : (p : Part) → agree_below (λ d. not (is_ascii_hexdigit d) || is_part_char Rfc3986 p d) (λ _. true) 128 ≡ true
    all RegNameChar = refl
    all UserinfoChar = refl
    all PathChar = refl
    all SegmentNcChar = refl
    all QueryChar = refl
    all FragmentChar = refl

-- the run of the bytes is a run of the characters
module _ (s : Syntax) (p : Part) (bs : List ℕ) (n : ℕ) (r : IsRun (goes_on (is_part_char Rfc3986 p) bs) 0 (length bs) n) where
  -- the part's class by RFC 3986
  abbrev ascii : ℕ → Bool
  ascii = is_part_char Rfc3986 p

  -- at each place of the run stands a byte of the class, or an escape begins
  passed : (k : ℕ) → k < n → goes_on ascii bs k ≡ true
  passed k l = let e : 0 + k ≡ k = omega arith in subst (λ j. goes_on ascii bs j ≡ true) e (r.passed k l)

  -- neither is so where the run ends before the text does
  stopped : n < length bs → goes_on ascii bs n ≡ false
  stopped l = let e : 0 + n ≡ n = omega arith in subst (λ j. goes_on ascii bs j ≡ false) e (r.stopped l)

  -- no escape is cut
  -- a hexadecimal digit that is not past the run's end stands within the run
  further : (k : ℕ) → k ≤ n → is_ascii_hexdigit (get_or bs k 0) ≡ true → k < n
  further k le h = elim (cases_lt k n) [
    | inl l ↦ l
    | inr ge ↦
        let e : n ≡ k = omega arith in
        let on : goes_on ascii bs n ≡ true = ap (goes_on ascii bs) e ∙ ap (λ b. b || is_escape_at bs k) (hex_in_part p (get_or bs k 0) h) in
        absurd (elim (cases_lt n (length bs)) [
          | inl inside ↦ (let off : goes_on ascii bs n ≡ false = stopped inside in cc)
          | inr outside ↦ (let none : get_or bs k 0 ≡ 0 = get_or_past bs k 0 (omega (arith, e)) in
              let no : is_ascii_hexdigit 0 ≡ true = ap is_ascii_hexdigit (sym none) ∙ h in cc)
        ])
  ]

  -- where a front ends within the run or with it, one ends with the run
  walk : (fuel at : ℕ) → n ≤ at + fuel → at ≤ n → AsciiFront (is_part_char s p) bs at → AsciiFront (is_part_char s p) bs n
  walk zero at full le f = let e : at ≡ n = omega arith in subst (AsciiFront (is_part_char s p) bs) e f
  walk (suc fuel) at full le f = elim (cases_lt at n) [
    | inl l ↦ step (walk fuel) (ascii (get_or bs at 0)) refl l
    | inr ge ↦ (let e : at ≡ n = omega arith in subst (AsciiFront (is_part_char s p) bs) e f)
  ]
    where
      step : ((to : ℕ) → n ≤ to + fuel → to ≤ n → AsciiFront (is_part_char s p) bs to → AsciiFront (is_part_char s p) bs n)
          → (b : Bool) → ascii (get_or bs at 0) ≡ b → at < n → AsciiFront (is_part_char s p) bs n
      step on true h l = on (at + 1) (omega arith) (omega arith)
          (one_more (is_part_char s p) bs at f (omega (arith, r.within)) (part_small p (get_or bs at 0) h) (part_from_ascii s p (get_or bs at 0) h))
      step on false h l =
          let escape : is_escape_at bs at ≡ true = or_other (ascii (get_or bs at 0)) (is_escape_at bs at) (passed at l) h in
          let x = escape_parts bs at escape in
          let first = further (at + 1) (omega arith) x.high in
          let second = further (at + 2) (omega arith) x.low in
          on (at + 3) (omega arith) (omega arith) (escape_more (is_part_char s p) bs at f (omega (arith, r.within)) escape)

  -- in UTF-8 the bytes of the run are characters of the part or percent-encoded ones
  pub part_front : IsUtf8 bs → AsciiFront (is_part_char s p) bs n
  part_front u = walk n 0 (omega arith) (omega arith) (record { utf8 = u; run = run_start (Encoded (is_part_char s p)) (chars bs) })

-- a text's first character, where that is ASCII, is its first byte
pub first_byte : (bs rest : List ℕ) (c : ℕ) → IsUtf8 bs → c < 128 → chars bs ≡ c ∷ rest → (0 < length bs) × (get_or bs 0 0 ≡ c)
first_byte bs rest c u small e =
    let whole : c ∷ encode_utf8_all rest ≡ bs = ap (λ s. s ++ encode_utf8_all rest) (sym (encode_ascii c small)) ∙ sym (ap encode_utf8_all e)
    ∙ encodes-chars bs u in
    (omega (arith, ap length whole), sym (ap (λ s. get_or s 0 0) whole))

-- where the first byte is no character of an ASCII class, the first character is none
pub first_stops : (class : ℕ → Bool) → ((c : ℕ) → class c ≡ true → c < 128) → (bs : List ℕ) → IsUtf8 bs → (0 < length bs → class (get_or bs 0 0) ≡ false)
    → StartsWithNo (OneOf class) (chars bs)
first_stops class small bs u stop rest f =
    let c = f.is.character in
    let b = first_byte bs rest c u (small c f.is.member) (sym f.joined ∙ ap (λ s. s ++ rest) f.is.is) in
    let n : class c ≡ false = ap class (sym b.1) ∙ stop b.0 in
    let m : class c ≡ true = f.is.member in
    cc

-- a percent sign before two hexadecimal digits is an escape
escape_from : (bs : List ℕ) (n : ℕ) → get_or bs n 0 ≡ 37 → is_ascii_hexdigit (get_or bs (n + 1) 0) ≡ true → is_ascii_hexdigit (get_or bs (n + 2) 0) ≡ true
    → is_escape_at bs n ≡ true
escape_from bs n e h k =
    ap (λ c. eqb c 37 && is_ascii_hexdigit (get_or bs (n + 1) 0) && is_ascii_hexdigit (get_or bs (n + 2) 0)) e
    ∙ ap (λ b. b && is_ascii_hexdigit (get_or bs (n + 2) 0)) h ∙ k

-- where the run ends, no more of it begins
module _ (p : Part) (bs : List ℕ) (n : ℕ) (u : IsUtf8 (drop n bs)) (r : IsRun (goes_on (is_part_char Rfc3986 p) bs) 0 (length bs) n) where
  -- where the run ends before the text does, no byte of the class stands and no escape begins
  ends : n < length bs → goes_on (is_part_char Rfc3986 p) bs n ≡ false
  ends l = let e : 0 + n ≡ n = omega arith in subst (λ j. goes_on (is_part_char Rfc3986 p) bs j ≡ false) e (r.stopped l)

  -- no percent-encoding begins where the run ends
  no_escape : StartsWithNo PctEncoded (chars (drop n bs))
  no_escape y f =
      let digits = f.is.second in
      let a = digits.first.character in
      let b = digits.second.character in
      let pair : f.is.back ≡ a ∷ b ∷ [] = sym digits.joined ∙ ap (λ s. s ++ digits.back) digits.first.is ∙ ap (λ s. a ∷ s) digits.second.is in
      let text : 37 ∷ a ∷ b ∷ y ≡ chars (drop n bs) = ap (λ s. 37 ∷ (s ++ y)) (sym pair) ∙ first_of_pct (chars (drop n bs)) y f in
      let whole : 37 ∷ a ∷ b ∷ encode_utf8_all y ≡ drop n bs
      = sym (ap (λ s. 37 ∷ (s ++ (encode_utf8 b ++ encode_utf8_all y))) (encode_ascii a (hex_small a digits.first.member))
      ∙ ap (λ s. 37 ∷ a ∷ (s ++ encode_utf8_all y)) (encode_ascii b (hex_small b digits.second.member)))
      ∙ ap (λ s. s ++ (encode_utf8 a ++ (encode_utf8 b ++ encode_utf8_all y))) (sym (encode_ascii 37 (omega arith))) ∙ ap encode_utf8_all text
      ∙ encodes-chars (drop n bs) u in
      let at = λ (k : ℕ). ap (λ s. get_or s k 0) whole ∙ get_or-drop n bs k 0 in
      let here : n + 0 ≡ n = omega arith in
      let escape : is_escape_at bs n ≡ true = escape_from bs n (ap (λ k. get_or bs k 0) (sym here) ∙ sym (at 0))
      (ap is_ascii_hexdigit (sym (at 1)) ∙ digits.first.member) (ap is_ascii_hexdigit (sym (at 2)) ∙ digits.second.member) in
      let on : goes_on (is_part_char Rfc3986 p) bs n ≡ true = or_right (is_part_char Rfc3986 p (get_or bs n 0)) (is_escape_at bs n) escape in
      let off : goes_on (is_part_char Rfc3986 p) bs n ≡ false = ends (omega (arith, ap length whole, length-drop n bs)) in
      cc

  -- no character of RFC 3986's class, or percent-encoded one, begins there
  pub part_stops : StartsWithNo (Encoded (is_part_char Rfc3986 p)) (chars (drop n bs))
  part_stops = no_start_either (OneOf (is_part_char Rfc3986 p)) PctEncoded (chars (drop n bs))
      (first_stops (is_part_char Rfc3986 p) (part_small p) (drop n bs) u
      (λ l.
      let at : get_or (drop n bs) 0 0 ≡ get_or bs n 0 = get_or-drop n bs 0 0 ∙ ap (λ k. get_or bs k 0) (omega arith) in
      ap (is_part_char Rfc3986 p) at ∙ (or_parts (is_part_char Rfc3986 p (get_or bs n 0)) (is_escape_at bs n) (ends (omega (arith, length-drop n bs)))).0))
      no_escape

-- where the code's loop ends
-- none of the part's begins, where none of RFC 3986's and none past ASCII does
pub part_stops_at : (s : Syntax) (p : Part) (c : ℕ) (text after : List ℕ) → text ≡ c ∷ after → StartsWithNo (Encoded (is_part_char Rfc3986 p)) text
    → is_wide_part_char s p c ≡ false → StartsWithNo (Encoded (is_part_char s p)) text
part_stops_at s p c text after e stops wide = no_start_either (OneOf (is_part_char s p)) PctEncoded text
    (one_stops (is_part_char s p) c text after e (by_class (is_part_char Rfc3986 p c) refl))
    (λ y f. stops y (start_right (OneOf (is_part_char Rfc3986 p)) PctEncoded text y f))
  where
    by_class : (b : Bool) → is_part_char Rfc3986 p c ≡ b → is_part_char s p c ≡ false
    by_class true h = absurd (stops after (encoded_char (is_part_char Rfc3986 p) c text after e h))
    by_class false h = part_neither s p c h wide

-- a table's class
-- a table that is a part's class on all bytes is so on each
pub table_is : (table : List ℕ) (p q : Part) → q ≡ p → agree_below (is_in table) (is_part_char Rfc3986 p) 256 ≡ true → (c : ℕ) → c < 256
    → is_in table c ≡ is_part_char Rfc3986 q c
table_is table p q e all c l = agree_below_at (is_in table) (is_part_char Rfc3986 p) 256 c all l ∙ ap (λ r. is_part_char Rfc3986 r c) (sym e)

-- As at the front, and As at the front of what follows them, are As at the front
pub run_more : (A : Form) (text mid rest : List ℕ) → StartsWith (Repeat A) text mid → StartsWith (Repeat A) mid rest → StartsWith (Repeat A) text rest
run_more A text mid rest p q = record {
  front = p.front ++ q.front;
  is = Repeat-append A p.front q.front p.is q.is;
  joined = append_assoc p.front q.front rest ∙ ap (λ s. p.front ++ s) q.joined ∙ p.joined;
}

-- one more before a run
pub run_behind : (A : Form) (text mid rest : List ℕ) → StartsWith A text mid → RunThen A mid rest → RunThen A text rest
run_behind A text mid rest f r = record { run = run_more A text mid rest (run_push A text text mid (run_start A text) f) r.run; stops = r.stops }

-- a run of one class goes on as a run of a wider one
pub run_wider : (A B : Form) (text mid rest : List ℕ) → ((x : List ℕ) → A x → B x) → StartsWith (Repeat A) text mid → RunThen B mid rest → RunThen B text rest
run_wider A B text mid rest wider p r = record {
  run = run_more B text mid rest (record { front = p.front; is = Repeat-weaker A B wider p.front p.is; joined = p.joined }) r.run;
  stops = r.stops;
}

-- the first byte
pub record FirstByte (bs : List ℕ) (b : ℕ) : Type 0 where
  pub inside : 0 < length bs
  pub is : get_or bs 0 0 ≡ b

-- a byte that is got at place 0 is the first byte
pub first_got : (bs : List ℕ) (b : ℕ) → slice_get bs 0 ≡ Some b → FirstByte bs b
first_got bs b at = record { inside = slice_get_within bs 0 b at; is = get_or_from_slice_get bs 0 b 0 at }

-- where none is got at place 0, there is no first byte
pub first_gone : (bs : List ℕ) → None ≡ slice_get bs 0 → 0 < length bs → ⊥
first_gone bs gone inside = let e : None ≡ Some (get_or bs 0 0) = gone ∙ slice_get-get_or bs 0 0 inside in cc

-- where it is ASCII, it is the first character
pub first_is : (bs : List ℕ) (b : ℕ) → IsUtf8 bs → b < 128 → slice_get bs 0 ≡ Some b → chars bs ≡ b ∷ chars (drop 1 bs)
first_is bs b u small at =
    let f = first_got bs b at in
    (one_byte bs 0 u f.inside (subst (λ c. c < 128) (sym f.is) small)).is ∙ ap (λ c. c ∷ chars (drop 1 bs)) f.is

-- a text that does not begin with an ASCII byte does not begin with the character
pub not_first_at : (bs : List ℕ) (w : ℕ) → IsUtf8 bs → w < 128 → (0 < length bs → get_or bs 0 0 ≡ w → ⊥) → NotFirst w (chars bs)
not_first_at bs w u small other rest e = let b = first_byte bs rest w u small e in other b.0 b.1

-- the classes that are read without percent-encodings are ASCII
pub class_small : (k : Class) (c : ℕ) → is_class_char k c ≡ true → c < 128
class_small Letter c h = grind (arith, nat_tests)
class_small SchemeChar c h = grind (arith, nat_tests)
class_small Decimal c h = grind (arith, nat_tests)
class_small NonzeroDecimal c h = grind (arith, nat_tests)
class_small Hexadecimal c h = grind (arith, nat_tests)
class_small ZeroOrOne c h = grind (arith, nat_tests)
class_small VersionLetter c h = grind (arith, nat_tests)
class_small FutureChar c h = grind (arith, nat_tests)
class_small OperatorChar c h = grind (arith, nat_tests)
class_small NameChar c h = grind (arith, nat_tests)
