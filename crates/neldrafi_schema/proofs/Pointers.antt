-- Pointers: their tokens, and the places that tokens name.
use Rattle.std.proofs.Common.{◌≡◌, ◌⊎◌, ◌∙◌, ℕ, suc, ◌+◌, ◌<◌, ◌^◌, ◌-◌, ◌≤◌, List, [], ◌∷◌, ◌++◌, length, take, get_or, drop, map, refl, sym, ap, arith, add-one, drop-cons, append_assoc, eqb-true, Bor, Bool, true, false, Option, Some, None, Result, Ok, Err, IfOk, inl, inr, subst, String, Global, string_bytes, IsUtf8}
use Rattle.std.proofs.lemmas.Bool.{false≢true}
use Rattle.std.proofs.lemmas.Bool.Decides.{nat_tests}
use Rattle.std.proofs.lemmas.Str.Parse.{numerals_by_value, parse_plain, tells_all_ascii_digits}
use Rattle.std.specs.Prelude.{option_and_then, option_map, if◌then◌else◌, not, ◌&&◌, ◌||◌, ◌==◌, ◌≢◌, nat_lt}
use Rattle.std.proofs.lemmas.Str.{IsUtf8-from_is_utf8, IsUtf8-string_bytes, is_utf8-from_IsUtf8}
use Rattle.std.specs.List.{slice_split}
use Rattle.std.specs.Result.{IsOk, OkIff, result_ok}
use Rattle.std.specs.Str.{all_ascii_digits, is_utf8}
use Rattle.std.specs.Str.Parse.{ParsesUnsigned, digits_value}
use Rattle.percent_encoding.specs.Percent.{percent_decode}
use Rattle.serde_json.specs.Data.{Data}
use Rattle.neldrafi_schema.specs.Paths.{Path, child}
use Rattle.neldrafi_schema.specs.References.{decoded, is_place, path_along, path_of_pointer, path_of_tokens, place_named, segment_at}
use Rattle.neldrafi_schema.specs.machine.Words.{begins_oddly}
use Rattle.neldrafi_schema.proofs.Lists.{first_and_others, nothing_in}

abbrev pub texts : List (Bor (List ℕ)) → List (List ℕ)
texts ts = map (λ t. t.now) ts

-- ---- along tokens

module _ (tokens : List (Bor (List ℕ))) (i : ℕ) (token : Bor (List ℕ)) (d : Data) (h : i < length tokens) where
  along : path_along (texts (drop i tokens)) d
      ≡ option_and_then (λ below. option_map (λ path. segment_at d (get_or tokens i token).now ∷ path) (path_along (texts (drop (i + 1) tokens)) below))
      (child (segment_at d (get_or tokens i token).now) d)
  along = rw (add-one, drop-cons tokens i token h) refl

  pub none_along : child (segment_at d (get_or tokens i token).now) d ≡ None → path_along (texts (drop i tokens)) d ≡ None
  none_along e = along ∙ ap (option_and_then _) e

  pub more_along : (path : Path) (v : Data) → child (segment_at d (get_or tokens i token).now) d ≡ Some v
      → option_map (λ below. path ++ below) (path_along (texts (drop i tokens)) d)
      ≡ option_map (λ below. (path ++ segment_at d (get_or tokens i token).now ∷ []) ++ below) (path_along (texts (drop (i + 1) tokens)) v)
  more_along path v e = ap (option_map (λ below. path ++ below)) (along ∙ ap (option_and_then _) e) ∙ behind (path_along (texts (drop (i + 1) tokens)) v) where
    behind : (o : Option Path) → option_map (λ below. path ++ below) (option_map (λ path. segment_at d (get_or tokens i token).now ∷ path) o)
        ≡ option_map (λ below. (path ++ segment_at d (get_or tokens i token).now ∷ []) ++ below) o
    behind None = refl
    behind (Some below) = ap Some (sym (append_assoc path (segment_at d (get_or tokens i token).now ∷ []) below))

-- ---- the tokens of a pointer

module _ (document : Data) (pointer : List ℕ) (tokens : List (Bor (List ℕ))) (none : Bor (List ℕ)) (cut : texts tokens ≡ slice_split (λ b. b == 47) pointer)
    (some : 1 ≤ length tokens) where
  abbrev others : List (Bor (List ℕ))
  others = take (length tokens - 1) (drop 1 tokens)

  tokens_are : slice_split (λ b. b == 47) pointer ≡ (get_or tokens 0 none).now ∷ texts others
  tokens_are = sym cut ∙ ap texts (first_and_others tokens none some)

  pub pointer_read : length (get_or tokens 0 none).now ≡ 0 → path_along (texts others) document ≡ path_of_pointer document pointer
  pointer_read empty = sym (ap (path_of_tokens document) (tokens_are ∙ ap (λ t. t ∷ texts others) (nothing_in (get_or tokens 0 none).now empty)))

  pub pointer_none : (length (get_or tokens 0 none).now ≡ 0 → ⊥) → None ≡ path_of_pointer document pointer
  pointer_none more = by (get_or tokens 0 none).now tokens_are more where
    by : (first : List ℕ) → slice_split (λ b. b == 47) pointer ≡ first ∷ texts others → (length first ≡ 0 → ⊥) → None ≡ path_of_pointer document pointer
    by [] e more = absurd (more refl)
    by (c ∷ cs) e more = sym (ap (path_of_tokens document) e)

-- ---- places

either : (a b : Bool) → (a || b) ≡ true → (a ≡ true) ⊎ (b ≡ true)
either true b e = inl refl
either false b e = inr e

neither : (a b : Bool) → (a || b) ≡ false → (a ≡ false) × (b ≡ false)
neither true b e = cc
neither false b e = (refl, e)

and_false : (a : Bool) → (a && false) ≡ false
and_false true = refl
and_false false = refl

and_first : (a b : Bool) → (a && b) ≡ true → a ≡ true
and_first true b e = refl
and_first false b e = cc

and_second : (a b : Bool) → (a && b) ≡ true → b ≡ true
and_second true b e = e
and_second false b e = cc

or_true : (a : Bool) → (a || true) ≡ true
or_true true = refl
or_true false = refl

some : (n : ℕ) → nat_lt 0 (suc n) ≡ true
some n = grind (arith, nat_tests)

two : (n : ℕ) → (suc (suc n) == 1) ≡ false
two n = grind (arith, nat_tests)

pub odd_names_none : (token : List ℕ) → begins_oddly token ≡ true → place_named token ≡ None
unfolding place_named
odd_names_none [] e = cc
odd_names_none (c ∷ []) e = rw (eqb-true c 43 e) refl
odd_names_none (c ∷ d ∷ rest) e = by (either (c == 43) (c == 48) e) where
  by : ((c == 43) ≡ true) ⊎ ((c == 48) ≡ true) → place_named (c ∷ d ∷ rest) ≡ None
  by (inl plus) = rw (eqb-true c 43 plus, some (suc (length rest))) refl
  by (inr zero) = rw (eqb-true c 48 zero, two (length rest), and_false) refl

differs : (c d : ℕ) → (c == d) ≡ false → c ≢ d
differs c d e = grind (arith, nat_tests)

no_plus : (token : List ℕ) → begins_oddly token ≡ false → get_or token 0 0 ≢ 43
no_plus [] e = omega arith
no_plus (c ∷ []) e = differs c 43 e
no_plus (c ∷ d ∷ rest) e = differs c 43 (neither (c == 43) (c == 48) e).0

no_zero : (token : List ℕ) → begins_oddly token ≡ false → 0 < length token → ((length token == 1) || not (get_or token 0 0 == 48)) ≡ true
no_zero [] e h = absurd (omega arith)
no_zero (c ∷ []) e h = refl
no_zero (c ∷ d ∷ rest) e h = rw (neither (c == 43) (c == 48) e).1 (or_true (length (c ∷ d ∷ rest) == 1))

named_by : {E : Type 0} (token : List ℕ) (r : Result ℕ E) → begins_oddly token ≡ false
    → OkIff r ((all_ascii_digits token ≡ true) × (0 < length token) × (digits_value 10 token < 2 ^ 64)) (digits_value 10 token) → result_ok r ≡ place_named token
unfolding place_named
named_by token (Ok n) e ((digits, some, small), is) =
    let nonempty : nat_lt 0 (length token) ≡ true = grind (arith, nat_tests) in
    let fits : nat_lt (digits_value 10 token) (2 ^ 64) ≡ true = grind (arith, nat_tests) in
    rw (nonempty, digits, no_zero token e some, fits, is) refl
named_by token (Err x) e wrong = by (is_place token && nat_lt (digits_value 10 token) (2 ^ 64)) refl where
  by : (b : Bool) → (is_place token && nat_lt (digits_value 10 token) (2 ^ 64)) ≡ b
      → None ≡ (if b then Some (digits_value 10 token) else None)
  by false f = refl
  by true f =
      let place : is_place token ≡ true = and_first _ _ f in
      let small : digits_value 10 token < 2 ^ 64 = let t : nat_lt (digits_value 10 token) (2 ^ 64) ≡ true = and_second _ _ f in grind (arith, nat_tests) in
      let some : 0 < length token = let t : nat_lt 0 (length token) ≡ true = and_first _ _ (and_first _ _ place) in grind (arith, nat_tests) in
      absurd (wrong (and_second _ _ (and_first _ _ place), some, small))

pub parse_names : {E : Type 0} (token : List ℕ) (r : Result ℕ E) → ParsesUnsigned 64 10 token r → begins_oddly token ≡ false → result_ok r ≡ place_named token
parse_names token r h e = named_by token r e (parse_plain (numerals_by_value _ tells_all_ascii_digits) 64 token r h (no_plus token e))

-- ---- texts

pub text_read : {E : Type 0} (fragment bytes : List ℕ) (r : Result (String Global) E) → bytes ≡ percent_decode fragment → IfOk r (λ t. string_bytes t ≡ bytes)
    → (IsUtf8 bytes → IsOk r) → option_map string_bytes (result_ok r) ≡ decoded fragment
text_read fragment bytes (Ok t) e same succeeds =
    let valid : is_utf8 (percent_decode fragment) ≡ true = is_utf8-from_IsUtf8 (percent_decode fragment) (subst IsUtf8 (same ∙ e) (IsUtf8-string_bytes t)) in
    rw (valid, same, e) refl
text_read fragment bytes (Err x) e same succeeds = by (is_utf8 (percent_decode fragment)) refl where
  by : (b : Bool) → is_utf8 (percent_decode fragment) ≡ b → None ≡ (if b then Some (percent_decode fragment) else None)
  by false f = refl
  by true f = absurd (false≢true (succeeds (subst IsUtf8 (sym e) (IsUtf8-from_is_utf8 (percent_decode fragment) f))))
