-- Values that are the same have the same key.
use Rattle.std.proofs.Common.{◌≡◌, ◌∷◌, [], ◌++◌, ◌∙◌, refl, sym, ap, ℕ, List, Bool, true, false, pos, ℤ, int_lt, w64, true≢false}
use Rattle.std.proofs.Math.Path.{ap₂}
use Rattle.std.proofs.lemmas.Bool.Decides.{Decides-int_eq}
use Rattle.std.proofs.lemmas.Slice.Eq.{bytes_eq-Decides}
use Rattle.std.specs.Prelude.{◌&&◌, ◌==◌, Float, Option, Some, None, if◌then◌else◌, unsigned_abs}
use Rattle.std.specs.Bool.{beq, passes}
use Rattle.std.specs.Str.{bytes_eq}
use Rattle.std.specs.Float.{float_to_signed, float_to_unsigned, float_zero, minus_two_to, two_to}
use Rattle.std.specs.Float.Order as floats
use lib.Dec.{eqb→eq}
use lib.Ieee.{le, lt}
use Rattle.serde_json.specs.Data.{Data, null, boolean, number, string, array, object, Items, no_items, item, Members, no_members, member}
use Rattle.serde_json.specs.Find.{as_integer, to_float}
use Rattle.neldrafi_schema.specs.Equality.{same, same_items, same_members}
use Rattle.neldrafi_schema.specs.Numbers.{is_between, is_float_of, is_whole_float, same_whole}
use Rattle.neldrafi_schema.specs.machine.Keys.{float_bytes, items_key, key_of, members_key, text_key, whole_bytes, whole_key}
use Rattle.neldrafi_schema.proofs.Floats.{is_false, same_float}

left_of : (a b : Bool) → (a && b) ≡ true → a ≡ true
left_of true b h = refl
left_of false b h = h

right_of : (a b : Bool) → (a && b) ≡ true → b ≡ true
right_of true b h = h
right_of false b h = absurd (true≢false (sym h))

-- ---- numbers

not_from_zero : (x : Float) → lt x float_zero ≡ true → le float_zero x ≡ false
not_from_zero x h = is_false (le float_zero x) (λ k. floats.lt_irrefl x (floats.lt_of_lt_of_le x float_zero x (passes _ h) k))

of_negative : (n : ℕ) (x : Float) → is_whole_float x ≡ true → le (minus_two_to 63) x ≡ true → lt x float_zero ≡ true → (unsigned_abs (float_to_signed w64 x) == n) ≡ true
    → whole_bytes true n ≡ float_bytes x
of_negative n x w low high e =
    let same : unsigned_abs (float_to_signed w64 x) ≡ n = eqb→eq (unsigned_abs (float_to_signed w64 x)) n (passes _ e) in
    rw (w, low, high, not_from_zero x high, sym same) refl

of_natural : (n : ℕ) (x : Float) → is_whole_float x ≡ true → le float_zero x ≡ true → lt x (two_to 64) ≡ true → (float_to_unsigned w64 x == n) ≡ true
    → whole_bytes false n ≡ float_bytes x
of_natural n x w low high e =
    let same : float_to_unsigned w64 x ≡ n = eqb→eq (float_to_unsigned w64 x) n (passes _ e) in
    rw (w, low, high, sym same) refl

of_float : (z : ℤ) (x : Float) (less : Bool) → int_lt z (pos 0) ≡ less → is_float_of z x ≡ true → whole_bytes (int_lt z (pos 0)) (unsigned_abs z) ≡ float_bytes x
of_float z x true e h =
    let inner = rw e at (right_of (is_whole_float x) _ h) in
    let between = left_of (is_between (minus_two_to 63) x float_zero) _ inner in
    let low = left_of (le (minus_two_to 63) x) (lt x float_zero) between in
    let high = right_of (le (minus_two_to 63) x) (lt x float_zero) between in
    rw (e) (of_negative (unsigned_abs z) x (left_of (is_whole_float x) _ h) low high (right_of (is_between (minus_two_to 63) x float_zero) _ inner))
of_float z x false e h =
    let inner = rw e at (right_of (is_whole_float x) _ h) in
    let between = left_of (is_between float_zero x (two_to 64)) _ inner in
    let low = left_of (le float_zero x) (lt x (two_to 64)) between in
    let high = right_of (le float_zero x) (lt x (two_to 64)) between in
    rw (e) (of_natural (unsigned_abs z) x (left_of (is_whole_float x) _ h) low high (right_of (is_between float_zero x (two_to 64)) _ inner))

number_keys : (a b : Option ℤ) (x y : Float) → same_whole a b x y ≡ true → whole_key a x ≡ whole_key b y
number_keys (Some a) (Some b) x y h = ap (λ z. whole_bytes (int_lt z (pos 0)) (unsigned_abs z)) ((Decides-int_eq a b).0 h)
number_keys (Some a) None x y h = of_float a y (int_lt a (pos 0)) refl h
number_keys None (Some b) x y h = sym (of_float b x (int_lt b (pos 0)) refl h)
number_keys None None x y h = same_float x y (passes _ h)

-- ---- values

truth_keys : (a b : Bool) → beq a b ≡ true → key_of (boolean a) ≡ key_of (boolean b)
truth_keys true true h = refl
truth_keys true false h = absurd (true≢false (sym h))
truth_keys false true h = absurd (true≢false (sym h))
truth_keys false false h = refl

mutual
  pub same_keys : (d e : Data) → same d e ≡ true → key_of d ≡ key_of e
  same_keys null null h = refl
  same_keys null (boolean b) h = absurd (true≢false (sym h))
  same_keys null (number y) h = absurd (true≢false (sym h))
  same_keys null (string t) h = absurd (true≢false (sym h))
  same_keys null (array es) h = absurd (true≢false (sym h))
  same_keys null (object ns) h = absurd (true≢false (sym h))
  same_keys (boolean a) null h = absurd (true≢false (sym h))
  same_keys (boolean a) (boolean b) h = truth_keys a b h
  same_keys (boolean a) (number y) h = absurd (true≢false (sym h))
  same_keys (boolean a) (string t) h = absurd (true≢false (sym h))
  same_keys (boolean a) (array es) h = absurd (true≢false (sym h))
  same_keys (boolean a) (object ns) h = absurd (true≢false (sym h))
  same_keys (number x) null h = absurd (true≢false (sym h))
  same_keys (number x) (boolean b) h = absurd (true≢false (sym h))
  same_keys (number x) (number y) h = number_keys (as_integer x) (as_integer y) (to_float x) (to_float y) h
  same_keys (number x) (string t) h = absurd (true≢false (sym h))
  same_keys (number x) (array es) h = absurd (true≢false (sym h))
  same_keys (number x) (object ns) h = absurd (true≢false (sym h))
  same_keys (string s) null h = absurd (true≢false (sym h))
  same_keys (string s) (boolean b) h = absurd (true≢false (sym h))
  same_keys (string s) (number y) h = absurd (true≢false (sym h))
  same_keys (string s) (string t) h = ap text_key ((bytes_eq-Decides s t).0 h)
  same_keys (string s) (array es) h = absurd (true≢false (sym h))
  same_keys (string s) (object ns) h = absurd (true≢false (sym h))
  same_keys (array ds) null h = absurd (true≢false (sym h))
  same_keys (array ds) (boolean b) h = absurd (true≢false (sym h))
  same_keys (array ds) (number y) h = absurd (true≢false (sym h))
  same_keys (array ds) (string t) h = absurd (true≢false (sym h))
  same_keys (array ds) (array es) h = ap (λ k. 7 ∷ k ++ 255 ∷ []) (same_items_keys ds es h)
  same_keys (array ds) (object ns) h = absurd (true≢false (sym h))
  same_keys (object ms) null h = absurd (true≢false (sym h))
  same_keys (object ms) (boolean b) h = absurd (true≢false (sym h))
  same_keys (object ms) (number y) h = absurd (true≢false (sym h))
  same_keys (object ms) (string t) h = absurd (true≢false (sym h))
  same_keys (object ms) (array es) h = absurd (true≢false (sym h))
  same_keys (object ms) (object ns) h = ap (λ k. 8 ∷ k ++ 255 ∷ []) (same_members_keys ms ns h)

  same_items_keys : (ds es : Items) → same_items ds es ≡ true → items_key ds ≡ items_key es
  same_items_keys no_items no_items h = refl
  same_items_keys no_items (item e es) h = absurd (true≢false (sym h))
  same_items_keys (item d ds) no_items h = absurd (true≢false (sym h))
  same_items_keys (item d ds) (item e es) h =
      ap₂ (λ k l. k ++ l) (same_keys d e (left_of (same d e) (same_items ds es) h)) (same_items_keys ds es (right_of (same d e) (same_items ds es) h))

  same_members_keys : (ms ns : Members) → same_members ms ns ≡ true → members_key ms ≡ members_key ns
  same_members_keys no_members no_members h = refl
  same_members_keys no_members (member l e ns) h = absurd (true≢false (sym h))
  same_members_keys (member k d ms) no_members h = absurd (true≢false (sym h))
  same_members_keys (member k d ms) (member l e ns) h =
      let front = left_of (bytes_eq k l && same d e) (same_members ms ns) h in
      let names : k ≡ l = (bytes_eq-Decides k l).0 (left_of (bytes_eq k l) (same d e) front) in
      let values : key_of d ≡ key_of e = same_keys d e (right_of (bytes_eq k l) (same d e) front) in
      let rest : members_key ms ≡ members_key ns = same_members_keys ms ns (right_of (bytes_eq k l && same d e) (same_members ms ns) h) in
      rw (names, values, rest) refl
