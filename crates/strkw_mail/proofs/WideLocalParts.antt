-- A local part with characters past ASCII, by its characters and by their octets.
use Rattle.std.proofs.Common.{◌≡◌, ◌≢◌, ◌↔◌, ℕ, ◌<◌, ◌≤◌, Bool, true, false, ◌||◌, IsTrue, List, [], ◌∷◌, ◌++◌, length, drop, inl, inr}
use Rattle.std.proofs.Common.{encode_utf8, encode_utf8_all, refl, sym, ap, subst, ◌∙◌, arith}
use Rattle.std.specs.List.{AllByRecursion}
use Rattle.std.proofs.lemmas.Bool.{cases_lt, cases_eq, false≢true}
use Rattle.std.proofs.lemmas.Bool.Decides.{nat_tests}
use Rattle.std.proofs.lemmas.Str.{encode_ascii, length-le-encodes}
use Rattle.strkw_text.specs.Abnf.{Repeat, OneOf}
use Rattle.strkw_text.specs.Delimiters.{Without}
use Rattle.strkw_text.specs.Fronts.{StartsWithNo}
use Rattle.strkw_text.proofs.Classes.{repeat1_class}
use Rattle.strkw_text.proofs.Delimiters.{then_without, repeat_without, one_without}
use Rattle.strkw_text.proofs.Equivalences.{iff_trans, iff_sym}
use Rattle.strkw_text.proofs.Laws.{literal_at, literal_not, not_first, starts_one}
use Rattle.strkw_text.proofs.Runs.{one_stops, differ}
use Rattle.strkw_mail.specs.Characters.{is_atext, is_escaped, is_qtext_smtp}
use Rattle.strkw_mail.specs.IdnMailbox.{is_utf8_non_ascii, is_utf8_atext, is_utf8_qtext_smtp}
use Rattle.strkw_mail.specs.Mailbox.{AtomOf, DotStringOf, QuotedStringOf, LocalPartOf}
use Rattle.strkw_mail.specs.Scan.{InQuotes}
use Rattle.strkw_mail.specs.declared.scan.Charset.TheVariants.{Utf8}
use Rattle.strkw_mail.proofs.Octets.{some_octets, no_octets, some_characters, octets_of_one, octets_from_characters, characters_from_octets}
use Rattle.strkw_mail.proofs.Octets.{octets_not_first, octets_first, separated_octets}
use Rattle.strkw_mail.proofs.QuotedStrings.{no_quote, plain_start, plain_stop, pair_start, pair_stop, in_step, in_stop, in_end}

-- ---- the classes

-- where the second of two tests passes, one of both does
either_true : (a b : Bool) → IsTrue b → IsTrue (a || b)
either_true true b h = refl
either_true false b h = h

-- a character past ASCII passes its test
past_ascii : (c : ℕ) → 128 ≤ c → IsTrue (is_utf8_non_ascii c)
past_ascii c h = grind (arith, nat_tests)

-- it may stand in an atom
atext_wide : (c : ℕ) → 128 ≤ c → IsTrue (is_utf8_atext c)
atext_wide c h = either_true (is_atext c) (is_utf8_non_ascii c) (past_ascii c h)

-- and between quotes
qtext_wide : (c : ℕ) → 128 ≤ c → IsTrue (is_utf8_qtext_smtp c)
qtext_wide c h = either_true (is_qtext_smtp c) (is_utf8_non_ascii c) (past_ascii c h)

-- but not behind a backslash
escaped_narrow : (c : ℕ) → 128 ≤ c → is_escaped c ≡ false
escaped_narrow c h = grind (arith, nat_tests)

-- where ASCII characters alone stand
escaped_small : (c : ℕ) → IsTrue (is_escaped c) → c < 128
escaped_small c h = grind (arith, nat_tests)

-- ---- atoms with dots between them

-- an atom is one by its octets
atom_octets : (cs : List ℕ) → AtomOf is_utf8_atext cs ↔ AtomOf is_utf8_atext (encode_utf8_all cs)
atom_octets cs =
    let by_characters = repeat1_class is_utf8_atext cs in
    let by_octets = repeat1_class is_utf8_atext (encode_utf8_all cs) in (
      λ h. let a = by_characters.0 h in
          by_octets.1 (omega (arith, a.0, length-le-encodes cs), octets_from_characters (λ c. IsTrue (is_utf8_atext c)) atext_wide cs a.1),
      λ h. let a = by_octets.0 h in
          by_characters.1 (some_characters cs a.0, characters_from_octets (λ c. IsTrue (is_utf8_atext c)) atext_wide cs a.1),
    )

-- no dot stands in one
atom_no_dot : (x : List ℕ) → AtomOf is_utf8_atext x → Without 46 x
atom_no_dot = then_without 46 (omega arith) (OneOf is_utf8_atext) (Repeat (OneOf is_utf8_atext)) (one_without 46 (omega arith) is_utf8_atext refl)
    (repeat_without 46 (omega arith) (OneOf is_utf8_atext) (one_without 46 (omega arith) is_utf8_atext refl))

-- a Dot-string is one by its octets
dot_string_octets : (cs : List ℕ) → DotStringOf is_utf8_atext cs ↔ DotStringOf is_utf8_atext (encode_utf8_all cs)
dot_string_octets = separated_octets 46 (omega arith) (AtomOf is_utf8_atext) atom_no_dot atom_octets

-- ---- what stands between quotes

-- a character that needs no backslash, and then what stands between quotes
plain_step : (c : ℕ) (rest : List ℕ) → IsTrue (is_utf8_qtext_smtp c) → InQuotes Utf8 (c ∷ rest) ↔ InQuotes Utf8 rest
plain_step c rest m = in_step Utf8 (c ∷ rest) rest
    (not_first c 34 (c ∷ rest) rest refl (λ e. false≢true (sym (no_quote Utf8) ∙ subst (λ d. IsTrue (is_utf8_qtext_smtp d)) e m)))
    (plain_start Utf8 (c ∷ rest) rest (starts_one is_utf8_qtext_smtp c (c ∷ rest) rest m refl))

-- one that may not stand there, and is neither the quote nor the backslash
plain_no : (c : ℕ) (rest : List ℕ) → c ≢ 34 → c ≢ 92 → is_utf8_qtext_smtp c ≡ false → InQuotes Utf8 (c ∷ rest) → ⊥
plain_no c rest n m fails = in_stop Utf8 (c ∷ rest) (not_first c 34 (c ∷ rest) rest refl n)
    (plain_stop Utf8 (c ∷ rest) (not_first c 92 (c ∷ rest) rest refl m) (one_stops is_utf8_qtext_smtp c (c ∷ rest) rest refl fails))

-- the same of octets past ASCII in a row
past_steps : (xs ys : List ℕ) → AllByRecursion (λ b. 128 ≤ b) xs → InQuotes Utf8 (xs ++ ys) ↔ InQuotes Utf8 ys
past_steps [] ys a = (λ h. h, λ h. h)
past_steps (x ∷ xs) ys a = iff_trans (plain_step x (xs ++ ys) (qtext_wide x a.0)) (past_steps xs ys a.1)

-- a pair, and then what stands between quotes
pair_step : (e : ℕ) (rest : List ℕ) → IsTrue (is_escaped e) → InQuotes Utf8 (92 ∷ e ∷ rest) ↔ InQuotes Utf8 rest
pair_step e rest m = in_step Utf8 (92 ∷ e ∷ rest) rest (not_first 92 34 (92 ∷ e ∷ rest) (e ∷ rest) refl (differ 92 34 refl))
    (pair_start Utf8 (92 ∷ e ∷ rest) (e ∷ rest) rest refl (starts_one is_escaped e (e ∷ rest) rest m refl))

-- a backslash before what may not stand behind one
pair_no : (text : List ℕ) → StartsWithNo (OneOf is_escaped) text → InQuotes Utf8 (92 ∷ text) → ⊥
pair_no text n = in_stop Utf8 (92 ∷ text) (not_first 92 34 (92 ∷ text) text refl (differ 92 34 refl)) (pair_stop Utf8 (92 ∷ text) text refl n)

-- no octets of a character that may not stand there may
octets_stop : (xs ys : List ℕ) → 0 < length xs → AllByRecursion (λ b. is_escaped b ≡ false) xs → StartsWithNo (OneOf is_escaped) (xs ++ ys)
octets_stop [] ys some a = absurd (omega (arith, some))
octets_stop (x ∷ xs) ys some a = one_stops is_escaped x (x ∷ (xs ++ ys)) (xs ++ ys) refl a.0

-- it is the same by characters and by octets
abbrev Same : List ℕ → Type 0
Same cs = InQuotes Utf8 cs ↔ InQuotes Utf8 (encode_utf8_all cs)

-- behind a backslash
behind_backslash : (cs : List ℕ) → Same (drop 1 cs) → InQuotes Utf8 (92 ∷ cs) ↔ InQuotes Utf8 (92 ∷ encode_utf8_all cs)
behind_backslash [] same = (λ h. h, λ h. h)
behind_backslash (e ∷ rest) same = by_test (is_escaped e) refl
  where
    -- by the test of the character there
    by_test : (b : Bool) → is_escaped e ≡ b → InQuotes Utf8 (92 ∷ e ∷ rest) ↔ InQuotes Utf8 (92 ∷ (encode_utf8 e ++ encode_utf8_all rest))
    by_test true m = subst (λ bs. InQuotes Utf8 (92 ∷ e ∷ rest) ↔ InQuotes Utf8 (92 ∷ (bs ++ encode_utf8_all rest))) (sym (encode_ascii e (escaped_small e m)))
        (iff_trans (pair_step e rest m) (iff_trans same (iff_sym (pair_step e (encode_utf8_all rest) m))))
    by_test false m = (
      λ h. absurd (pair_no (e ∷ rest) (one_stops is_escaped e (e ∷ rest) rest refl m) h),
      λ h. absurd (pair_no (encode_utf8 e ++ encode_utf8_all rest)
          (octets_stop (encode_utf8 e) (encode_utf8_all rest) (some_octets e) (octets_of_one (λ b. is_escaped b ≡ false) escaped_narrow e m)) h),
    )

-- behind an ASCII character
behind_ascii : (c : ℕ) (cs : List ℕ) → Same cs → Same (drop 1 cs) → InQuotes Utf8 (c ∷ cs) ↔ InQuotes Utf8 (c ∷ encode_utf8_all cs)
behind_ascii c cs same later = elim (cases_eq c 34) [
  | inl e ↦ iff_trans (in_end Utf8 (c ∷ cs) cs (ap (λ d. d ∷ cs) e))
      (iff_trans (no_octets cs) (iff_sym (in_end Utf8 (c ∷ encode_utf8_all cs) (encode_utf8_all cs) (ap (λ d. d ∷ encode_utf8_all cs) e))))
  | inr n ↦ elim (cases_eq c 92) [
    | inl e ↦ subst (λ d. InQuotes Utf8 (d ∷ cs) ↔ InQuotes Utf8 (d ∷ encode_utf8_all cs)) (sym e) (behind_backslash cs later)
    | inr m ↦ by_test n m (is_utf8_qtext_smtp c) refl
  ]
]
  where
    -- by the test of the character
    by_test : c ≢ 34 → c ≢ 92 → (b : Bool) → is_utf8_qtext_smtp c ≡ b → InQuotes Utf8 (c ∷ cs) ↔ InQuotes Utf8 (c ∷ encode_utf8_all cs)
    by_test n m true t = iff_trans (plain_step c cs t) (iff_trans same (iff_sym (plain_step c (encode_utf8_all cs) t)))
    by_test n m false t = (λ h. absurd (plain_no c cs n m t h), λ h. absurd (plain_no c (encode_utf8_all cs) n m t h))

-- at the front of a text and behind its first character
both_same : (cs : List ℕ) → Same cs × Same (drop 1 cs)
both_same [] = ((λ h. h, λ h. h), (λ h. h, λ h. h))
both_same (c ∷ cs) =
    let later = both_same cs in (
      elim (cases_lt c 128) [
        | inl l ↦ subst (λ bs. InQuotes Utf8 (c ∷ cs) ↔ InQuotes Utf8 (bs ++ encode_utf8_all cs)) (sym (encode_ascii c l))
            (behind_ascii c cs later.0 later.1)
        | inr h ↦ iff_trans (plain_step c cs (qtext_wide c h))
            (iff_trans later.0 (iff_sym (past_steps (encode_utf8 c) (encode_utf8_all cs) (octets_of_one (λ b. 128 ≤ b) (λ d h. h) c h))))
      ],
      later.0,
    )

-- a Quoted-string is one by its octets
quoted_octets : (cs : List ℕ) → QuotedStringOf is_utf8_qtext_smtp cs ↔ QuotedStringOf is_utf8_qtext_smtp (encode_utf8_all cs)
quoted_octets [] = (λ h. h, λ h. h)
quoted_octets (c ∷ cs) = elim (cases_eq c 34) [
  | inl e ↦ iff_trans (literal_at (InQuotes Utf8) 34 (c ∷ cs) cs (ap (λ d. d ∷ cs) e))
      (iff_trans (both_same cs).0
      (iff_sym (literal_at (InQuotes Utf8) 34 (encode_utf8_all (c ∷ cs)) (encode_utf8_all cs) (octets_first 34 (omega arith) c cs e))))
  | inr n ↦ (
    λ h. absurd (literal_not (InQuotes Utf8) 34 (c ∷ cs) (not_first c 34 (c ∷ cs) cs refl n) h),
    λ h. absurd (literal_not (InQuotes Utf8) 34 (encode_utf8_all (c ∷ cs)) (octets_not_first 34 (omega arith) c cs n) h),
  )
]

-- and so is a local part
pub local_part_octets : (cs : List ℕ) → LocalPartOf is_utf8_atext is_utf8_qtext_smtp cs
    ↔ LocalPartOf is_utf8_atext is_utf8_qtext_smtp (encode_utf8_all cs)
local_part_octets cs =
    let dots = dot_string_octets cs in
    let quotes = quoted_octets cs in
    (elim [ inl a ↦ inl (dots.0 a) | inr b ↦ inr (quotes.0 b) ], elim [ inl a ↦ inl (dots.1 a) | inr b ↦ inr (quotes.1 b) ])
