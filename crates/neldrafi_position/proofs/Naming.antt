-- The tokens of a pointer.
use Rattle.std.proofs.Common.{◌≡◌, ◌⊎◌, ℕ, suc, ◌<◌, ◌^◌, ◌-◌, ◌≤◌, List, [], ◌∷◌, length, take, get_or, drop, refl, arith, eq-eqb, eqb-true, ne_eqb, Bool, true, false, Some, None, Result, Ok, Err, inl, inr}
use Rattle.std.proofs.lemmas.Bool.Decides.{nat_tests}
use Rattle.std.proofs.lemmas.List.{take_all}
use Rattle.std.proofs.lemmas.Str.Parse.{numerals_by_value, parse_plain, tells_all_ascii_digits}
use Rattle.std.specs.Prelude.{if◌then◌else◌, not, ◌&&◌, ◌||◌, ◌==◌, ◌≢◌, nat_lt}
use Rattle.std.specs.Result.{OkIff, result_ok}
use Rattle.std.specs.Str.{all_ascii_digits}
use Rattle.std.specs.Str.Parse.{ParsesUnsigned, digits_value}
use Rattle.serde_json.specs.Find.{unescape}
use Rattle.neldrafi_position.specs.Places.{is_index}
use Rattle.neldrafi_position.specs.machine.Tokens.{begins_oddly, index_in_word}

-- ---- what a token stands for

pub nothing : (token : List ℕ) → length token < 1 → unescape token ≡ []
unfolding unescape
nothing [] h = refl
nothing (c ∷ token) h = absurd (omega arith)

abbrev tail : List ℕ → List ℕ
tail token = take (length token - 1) (drop 1 token)

tail_is : (c : ℕ) (token : List ℕ) → tail (c ∷ token) ≡ token
tail_is c token = take_all (length (c ∷ token) - 1) token (omega arith)

tail_short : (c : ℕ) (token : List ℕ) → length (tail (c ∷ token)) < 1 → length token < 1
tail_short c token h = rw (tail_is c token) at h

tail_long : (c : ℕ) (token : List ℕ) → 1 ≤ length (tail (c ∷ token)) → 1 ≤ length token
tail_long c token h = rw (tail_is c token) at h

second_is : (c : ℕ) (token : List ℕ) (d : ℕ) → get_or (tail (c ∷ token)) 0 0 ≡ d → get_or token 0 0 ≡ d
second_is c token d e = rw (tail_is c token) at e

second_is_not : (c : ℕ) (token : List ℕ) (d : ℕ) → get_or (tail (c ∷ token)) 0 0 ≢ d → get_or token 0 0 ≢ d
second_is_not c token d n = rw (tail_is c token) at n

pub alone : (token : List ℕ) → 1 ≤ length token → length (tail token) < 1 → unescape token ≡ get_or token 0 0 ∷ unescape (tail token)
unfolding unescape
alone [] h f = absurd (omega arith)
alone (c ∷ []) h f = rw (tail_is c []) refl
alone (c ∷ d ∷ token) h f = let s = tail_short c (d ∷ token) f in absurd (omega arith)

pub plain : (token : List ℕ) → 1 ≤ length token → get_or token 0 0 ≢ 126 → unescape token ≡ get_or token 0 0 ∷ unescape (tail token)
unfolding unescape
plain [] h n = absurd (omega arith)
plain (c ∷ []) h n = rw (tail_is c []) refl
plain (c ∷ d ∷ token) h n = rw (tail_is c (d ∷ token), ne_eqb c 126 n) refl

pub tilde : (token : List ℕ) → 1 ≤ length token → get_or token 0 0 ≡ 126 → get_or (tail token) 0 0 ≢ 49 → get_or (tail token) 0 0 ≢ 48
    → unescape token ≡ get_or token 0 0 ∷ unescape (tail token)
unfolding unescape
tilde [] h e n m = absurd (omega arith)
tilde (c ∷ []) h e n m = rw (tail_is c []) refl
tilde (c ∷ d ∷ token) h e n m =
    rw (tail_is c (d ∷ token), eq-eqb c 126 e, ne_eqb d 49 (second_is_not c (d ∷ token) 49 n), ne_eqb d 48 (second_is_not c (d ∷ token) 48 m)) refl

pub slash : (token : List ℕ) → 1 ≤ length token → 1 ≤ length (tail token) → get_or token 0 0 ≡ 126 → get_or (tail token) 0 0 ≡ 49 → unescape token ≡ 47 ∷ unescape (tail (tail token))
unfolding unescape
slash [] h g e f = absurd (omega arith)
slash (c ∷ []) h g e f = let s = tail_long c [] g in absurd (omega arith)
slash (c ∷ d ∷ token) h g e f = rw (tail_is c (d ∷ token), tail_is d token, eq-eqb c 126 e, eq-eqb d 49 (second_is c (d ∷ token) 49 f)) refl

pub tilde_zero : (token : List ℕ) → 1 ≤ length token → 1 ≤ length (tail token) → get_or token 0 0 ≡ 126 → get_or (tail token) 0 0 ≡ 48 → unescape token ≡ 126 ∷ unescape (tail (tail token))
unfolding unescape
tilde_zero [] h g e f = absurd (omega arith)
tilde_zero (c ∷ []) h g e f = let s = tail_long c [] g in absurd (omega arith)
tilde_zero (c ∷ d ∷ token) h g e f =
    let is = second_is c (d ∷ token) 48 f in
    rw (tail_is c (d ∷ token), tail_is d token, eq-eqb c 126 e, ne_eqb d 49 (omega arith), eq-eqb d 48 is) refl

-- ---- indices

either : (a b : Bool) → (a || b) ≡ true → (a ≡ true) ⊎ (b ≡ true)
either true b e = inl refl
either false b e = inr e

neither : (a b : Bool) → (a || b) ≡ false → (a ≡ false) × (b ≡ false)
neither true b e = cc
neither false b e = (refl, e)

and_false : (a : Bool) → (a && false) ≡ false
and_false true = refl
and_false false = refl

and_first : (a b : Bool) → (a && b) ≡ true → a ≡ true
and_first true b e = refl
and_first false b e = cc

and_second : (a b : Bool) → (a && b) ≡ true → b ≡ true
and_second true b e = e
and_second false b e = cc

or_true : (a : Bool) → (a || true) ≡ true
or_true true = refl
or_true false = refl

some : (n : ℕ) → nat_lt 0 (suc n) ≡ true
some n = grind (arith, nat_tests)

two : (n : ℕ) → (suc (suc n) == 1) ≡ false
two n = grind (arith, nat_tests)

pub odd_is_none : (token : List ℕ) → begins_oddly token ≡ true → index_in_word token ≡ None
unfolding index_in_word
odd_is_none [] e = cc
odd_is_none (c ∷ []) e = rw (eqb-true c 43 e) refl
odd_is_none (c ∷ d ∷ rest) e = by (either (c == 43) (c == 48) e) where
  by : ((c == 43) ≡ true) ⊎ ((c == 48) ≡ true) → index_in_word (c ∷ d ∷ rest) ≡ None
  by (inl plus) = rw (eqb-true c 43 plus, some (suc (length rest))) refl
  by (inr zero) = rw (eqb-true c 48 zero, two (length rest), and_false) refl

differs : (c d : ℕ) → (c == d) ≡ false → c ≢ d
differs c d e = grind (arith, nat_tests)

no_plus : (token : List ℕ) → begins_oddly token ≡ false → get_or token 0 0 ≢ 43
no_plus [] e = omega arith
no_plus (c ∷ []) e = differs c 43 e
no_plus (c ∷ d ∷ rest) e = differs c 43 (neither (c == 43) (c == 48) e).0

no_zero : (token : List ℕ) → begins_oddly token ≡ false → 0 < length token → ((length token == 1) || not (get_or token 0 0 == 48)) ≡ true
no_zero [] e h = absurd (omega arith)
no_zero (c ∷ []) e h = refl
no_zero (c ∷ d ∷ rest) e h = rw (neither (c == 43) (c == 48) e).1 (or_true (length (c ∷ d ∷ rest) == 1))

read_as : {E : Type 0} (token : List ℕ) (r : Result ℕ E) → begins_oddly token ≡ false
    → OkIff r ((all_ascii_digits token ≡ true) × (0 < length token) × (digits_value 10 token < 2 ^ 64)) (digits_value 10 token) → result_ok r ≡ index_in_word token
unfolding index_in_word
read_as token (Ok n) e ((digits, nonempty, small), is) =
    let more : nat_lt 0 (length token) ≡ true = grind (arith, nat_tests) in
    let fits : nat_lt (digits_value 10 token) (2 ^ 64) ≡ true = grind (arith, nat_tests) in
    rw (more, digits, no_zero token e nonempty, fits, is) refl
read_as token (Err x) e wrong = by (is_index token && nat_lt (digits_value 10 token) (2 ^ 64)) refl where
  by : (b : Bool) → (is_index token && nat_lt (digits_value 10 token) (2 ^ 64)) ≡ b → None ≡ (if b then Some (digits_value 10 token) else None)
  by false f = refl
  by true f =
      let index : is_index token ≡ true = and_first _ _ f in
      let small : digits_value 10 token < 2 ^ 64 = let t : nat_lt (digits_value 10 token) (2 ^ 64) ≡ true = and_second _ _ f in grind (arith, nat_tests) in
      let nonempty : 0 < length token = let t : nat_lt 0 (length token) ≡ true = and_first _ _ (and_first _ _ index) in grind (arith, nat_tests) in
      absurd (wrong (and_second _ _ (and_first _ _ index), nonempty, small))

pub parse_is : {E : Type 0} (token : List ℕ) (r : Result ℕ E) → ParsesUnsigned 64 10 token r → begins_oddly token ≡ false → result_ok r ≡ index_in_word token
parse_is token r h e = read_as token r e (parse_plain (numerals_by_value _ tells_all_ascii_digits) 64 token r h (no_plus token e))
