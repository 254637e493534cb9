-- How long a text and its Punycode are: RFC 3492 section 6.2 reads a character or more for each character that it puts
-- into the text.
use Rattle.std.proofs.Common.{◌≡◌, ℕ, zero, suc, ◌+◌, ◌-◌, ◌*◌, ◌/◌, ◌%◌, ◌<◌, ◌≤◌, ◌==◌, nat_lt, Bool, true, false, cond, List, [], ◌∷◌}
use Rattle.std.proofs.Common.{length, insert, take, drop, All, refl}
use Rattle.std.proofs.Common.{Option, Some, None, IfSome, inl, inr, ap, subst, arith, eq-eqb, ne_eqb, length-append}
use Rattle.std.specs.Char.{IsScalar, is_ascii}
use Rattle.std.specs.List.{list_all, after_last}
use Rattle.std.specs.Option.{option_and_then}
use Rattle.std.proofs.Math.Utf8.{scalar_cases}
use Rattle.std.proofs.lemmas.Bool.{cases_eq, cond-true, cond-false}
use Rattle.std.proofs.lemmas.Bool.Decides.{nat_tests}
use Rattle.std.proofs.lemmas.List.Edits.{length-insert}
use Rattle.std.proofs.lemmas.List.Elements.{All-weaker, All-append, All-cons, All-take, All-drop}
use Rattle.std.proofs.lemmas.List.Sums.{AllPass-from_list_all}
use Rattle.std.proofs.lemmas.Option.{IfSome_then}
use Rattle.idna.specs.Punycode.{threshold, digit_value, read_integer, is_scalar, insert_all, adapt, basic_part, extended_part, decode, encode, delimiter}
use Rattle.idna.proofs.PunycodeLemmas.{decode-encode}
use Rattle.strkw_label.proofs.LastHyphen.{split_at_last}

-- what holds of both values of a choice holds of the chosen one
IfSome-cond : {A : Type 0} (P : A → Type 0) (b : Bool) (x y : Option A) → IfSome x P → IfSome y P → IfSome (cond b x y) P
IfSome-cond P true x y p q = p
IfSome-cond P false x y p q = q

-- what the function makes of each value with Q holds of what it makes of an optional one
IfSome-and_then : {A B : Type 0} (Q : A → Type 0) (P : B → Type 0) (f : A → Option B) (o : Option A) → IfSome o Q
    → ((x : A) → Q x → IfSome (f x) P) → IfSome (option_and_then f o) P
IfSome-and_then Q P f None q h = tt
IfSome-and_then Q P f (Some x) q h = h x q

-- an optional value has a value, if it has one
IfSome-any : {A : Type 0} (o : Option A) → IfSome o (λ x. Unit {0})
IfSome-any None = tt
IfSome-any (Some x) = tt

-- what holds of a value that a test lets pass
IfSome-when : {A : Type 0} (P : A → Type 0) (b : Bool) (x : Option A) → (b ≡ true → IfSome x P) → IfSome (cond b x None) P
IfSome-when P true x h = h refl
IfSome-when P false x h = tt

-- what is left after a reading is shorter than the input
abbrev IsShorter : List ℕ → ℕ × List ℕ → Type 0
IsShorter input read = length read.1 < length input

-- an integer takes a character or more of the input
read_shorter : (input : List ℕ) (bias k weight i : ℕ) → IfSome (read_integer bias k weight i input) (IsShorter input)
unfolding read_integer
read_shorter [] bias k weight i = tt
read_shorter (c ∷ input) bias k weight i =
    IfSome-and_then (λ (d : ℕ). Unit {0}) (IsShorter (c ∷ input)) _ (digit_value c) (IfSome-any (digit_value c))
    (λ digit u. at_digit digit (read_shorter input bias (k + 36) (weight * (36 - threshold bias k)) (i + digit * weight)))
  where
    -- where the character has this value
    at_digit : (digit : ℕ) → IfSome (read_integer bias (k + 36) (weight * (36 - threshold bias k)) (i + digit * weight) input) (IsShorter input)
        → IfSome (cond (nat_lt digit (threshold bias k)) (Some (i + digit * weight, input))
        (read_integer bias (k + 36) (weight * (36 - threshold bias k)) (i + digit * weight) input)) (IsShorter (c ∷ input))
    at_digit digit shorter =
        let next = read_integer bias (k + 36) (weight * (36 - threshold bias k)) (i + digit * weight) input in
        let more : IfSome next (IsShorter (c ∷ input)) = IfSome_then next {P = IsShorter input} {Q = IsShorter (c ∷ input)} shorter (λ read lt. omega arith) in
        let here : length input < length (c ∷ input) = omega arith in
        IfSome-cond (IsShorter (c ∷ input)) (nat_lt digit (threshold bias k)) (Some (i + digit * weight, input)) next here more

-- a text of so many characters at most
abbrev HasAtMost : ℕ → List ℕ → Type 0
HasAtMost n text = length text ≤ n

-- the decoder's loop puts no more characters in than it reads
insert_shorter : (turns n i bias : ℕ) (output input : List ℕ) → IfSome (insert_all turns n i bias output input) (HasAtMost (length output + length input))
unfolding insert_all
insert_shorter zero n i bias output [] = omega arith
insert_shorter (suc turns) n i bias output [] = omega arith
insert_shorter zero n i bias output (c ∷ input) = tt
insert_shorter (suc turns) n i bias output (c ∷ input) =
    IfSome-and_then (IsShorter (c ∷ input)) (HasAtMost (length output + length (c ∷ input))) _ (read_integer bias 36 1 i (c ∷ input))
    (read_shorter (c ∷ input) bias 36 1 i)
    (λ read lt.
    at_read read lt
    (insert_shorter turns (n + read.0 / (length output + 1)) (read.0 % (length output + 1) + 1) (adapt (read.0 - i) (length output + 1) (i == 0))
    (insert output (read.0 % (length output + 1)) (n + read.0 / (length output + 1))) read.1))
  where
    -- where the integer and the rest are these
    at_read : (read : ℕ × List ℕ) → IsShorter (c ∷ input) read
        → IfSome (insert_all turns (n + read.0 / (length output + 1)) (read.0 % (length output + 1) + 1) (adapt (read.0 - i) (length output + 1) (i == 0))
        (insert output (read.0 % (length output + 1)) (n + read.0 / (length output + 1))) read.1)
        (HasAtMost (length (insert output (read.0 % (length output + 1)) (n + read.0 / (length output + 1))) + length read.1))
        → IfSome (cond (is_scalar (n + read.0 / (length output + 1)))
        (insert_all turns (n + read.0 / (length output + 1)) (read.0 % (length output + 1) + 1) (adapt (read.0 - i) (length output + 1) (i == 0))
        (insert output (read.0 % (length output + 1)) (n + read.0 / (length output + 1))) read.1) None)
        (HasAtMost (length output + length (c ∷ input)))
    at_read read lt shorter =
        let count = length output + 1 in
        let place = read.0 % count in
        let point = n + read.0 / count in
        let longer : length (insert output place point) ≡ length output + 1 = length-insert output place point (omega arith) in
        let next = insert_all turns point (place + 1) (adapt (read.0 - i) count (i == 0)) (insert output place point) read.1 in
        let more : IfSome next (HasAtMost (length output + length (c ∷ input))) =
        IfSome_then next {P = HasAtMost (length (insert output place point) + length read.1)} {Q = HasAtMost (length output + length (c ∷ input))}
        shorter (λ text le. omega (arith, longer, lt)) in
        IfSome-cond (HasAtMost (length output + length (c ∷ input))) (is_scalar point) next None more tt

-- the two parts of an input are no longer than it
part_lengths : (input : List ℕ) → length (basic_part input) + length (extended_part input) ≤ length input
part_lengths input =
    elim (cases_eq (length (basic_part input)) 0) [
      | inl none ↦
          let all : extended_part input ≡ input = cond-true _ _ _ (eq-eqb _ 0 none) in
          omega (arith, none, ap length all)
      | inr some ↦
          let back : extended_part input ≡ after_last (λ c. c == delimiter) input = cond-false _ _ _ (ne_eqb _ 0 some) in
          let last = split_at_last (λ c. c == delimiter) input (omega arith) in
          omega (arith, ap length back, ap length last.2, length-append (basic_part input) (last.0 ∷ after_last (λ c. c == delimiter) input))
    ]

-- what is decoded is no longer than the input
decoded_length : (input : List ℕ) → IfSome (decode input) (HasAtMost (length input))
unfolding decode
decoded_length input =
    let inserted = insert_all (length input) 128 0 72 (basic_part input) (extended_part input) in
    let few : IfSome inserted (HasAtMost (length input)) =
    IfSome_then inserted {P = HasAtMost (length (basic_part input) + length (extended_part input))} {Q = HasAtMost (length input)}
    (insert_shorter (length input) 128 0 72 (basic_part input) (extended_part input)) (λ text le. omega (arith, part_lengths input)) in
    IfSome-cond (HasAtMost (length input)) (list_all is_ascii (basic_part input)) inserted None few tt

-- ASCII characters are scalar values
scalar_from_ascii : (c : ℕ) → is_ascii c ≡ true → IsScalar c
scalar_from_ascii c h = grind (arith, nat_tests)

-- the two words for scalar values agree
IsScalar-from_is_scalar : (c : ℕ) → is_scalar c ≡ true → IsScalar c
IsScalar-from_is_scalar c h = grind (arith, nat_tests)

-- the decoder's loop puts scalar values into the text
insert_scalars : (turns n i bias : ℕ) (output input : List ℕ) → All IsScalar output
    → IfSome (insert_all turns n i bias output input) (All IsScalar)
unfolding insert_all
insert_scalars zero n i bias output [] h = h
insert_scalars (suc turns) n i bias output [] h = h
insert_scalars zero n i bias output (c ∷ input) h = tt
insert_scalars (suc turns) n i bias output (c ∷ input) h =
    IfSome-and_then (λ read. Unit {0}) (All IsScalar) _ (read_integer bias 36 1 i (c ∷ input)) (IfSome-any (read_integer bias 36 1 i (c ∷ input)))
    (λ read u.
    let count = length output + 1 in
    let place = read.0 % count in
    let point = n + read.0 / count in
    IfSome-when (All IsScalar) (is_scalar point) _ (λ scalar.
    insert_scalars turns point (place + 1) (adapt (read.0 - i) count (i == 0)) (insert output place point) read.1
    (All-append IsScalar (take place output) (point ∷ drop place output) (All-take IsScalar place output h)
    (All-cons IsScalar point (drop place output) (IsScalar-from_is_scalar point scalar) (All-drop IsScalar place output h)))))

-- what is decoded are scalar values
decoded_scalars : (input : List ℕ) → IfSome (decode input) (All IsScalar)
unfolding decode
decoded_scalars input =
    IfSome-when (All IsScalar) (list_all is_ascii (basic_part input)) _ (λ ascii.
    insert_scalars (length input) 128 0 72 (basic_part input) (extended_part input)
    (All-weaker (λ c. is_ascii c ≡ true) IsScalar scalar_from_ascii (basic_part input) (AllPass-from_list_all is_ascii (basic_part input) ascii)))

-- the same of a text that is decoded
pub scalars_from_decoded : (input text : List ℕ) → decode input ≡ Some text → All IsScalar text
scalars_from_decoded input text e = subst (λ o. IfSome o (All IsScalar)) e (decoded_scalars input)

-- and the other way round
is_scalar-from_IsScalar : (c : ℕ) → IsScalar c → is_scalar c ≡ true
is_scalar-from_IsScalar c h =
    elim (scalar_cases c h) [
      | inl low ↦ grind (arith, nat_tests)
      | inr high ↦ grind (arith, nat_tests)
    ]

-- a text of scalar values is decoded from its encoding
pub decoded_from_encoded : (text : List ℕ) → All IsScalar text → decode (encode text) ≡ Some text
decoded_from_encoded text scalars = decode-encode text (All-weaker IsScalar (λ c. is_scalar c ≡ true) is_scalar-from_IsScalar text scalars)

-- and is no longer than that
pub text_length : (text : List ℕ) → All IsScalar text → length text ≤ length (encode text)
text_length text scalars =
    subst (λ o. IfSome o (HasAtMost (length (encode text)))) (decoded_from_encoded text scalars) (decoded_length (encode text))
