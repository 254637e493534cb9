-- Which of two numbers is the greater, by their digits.
use Rattle.std.proofs.Common.{◌≡◌, ◌↔◌, ℕ, ◌+◌, ◌*◌, ◌-◌, ◌<◌, ◌≤◌, ◌==◌, nat_le, Bool, true, false, not, ◌&&◌, ◌||◌, List, [], ◌∷◌, ◌++◌, length}
use Rattle.std.proofs.Common.{take, drop, Ordering, Less, Equal, Greater, IsTrue, refl, sym, ap, subst, ◌∙◌, true≢false, arith}
use Rattle.std.proofs.lemmas.Bool.Decides.{nat_tests}
use Rattle.std.specs.List.{list_any}
use Rattle.std.specs.Str.{byte}
use Rattle.std.specs.Ordering.{nat_cmp, is_le, ordering_then, MatchOrdering}
use Rattle.std.proofs.lemmas.Cmp.{ranked}
use Rattle.std.proofs.lemmas.List.{take-append-drop}
use Rattle.std.proofs.lemmas.Bool.{le-leb, leb-true}
use Rattle.strkw_regex_grammar.proofs.Numbers.{number_append, grows}
use Rattle.std.specs.Cmp.Lexicographic.{slice_cmp}
use Rattle.strkw_regex_grammar.specs.Numbers.{is_digit, are_digits, number_from, number}
use Rattle.strkw_charset.proofs.Booleans.{and_true, and_left, and_right}

-- a digit of these is no zero
abbrev pub has_value : List ℕ → Bool
has_value ds = list_any (λ d. not (d == byte "0")) ds

-- of as many digits behind a smaller number the number is smaller
smaller_behind : (v u : ℕ) (ds es : List ℕ) → length ds ≡ length es → are_digits ds ≡ true → v < u → number_from v ds < number_from u es
smaller_behind v u [] [] e h w = w
smaller_behind v u [] (f ∷ es) e h w = absurd (omega (arith, e))
smaller_behind v u (d ∷ ds) [] e h w = absurd (omega (arith, e))
smaller_behind v u (d ∷ ds) (f ∷ es) e h w =
    smaller_behind (v * 10 + (d - byte "0")) (u * 10 + (f - byte "0")) ds es (omega (arith, e)) (and_right (is_digit d) _ h)
    (one_more v u d (f - byte "0") (and_left (is_digit d) _ h) w)
  where
    -- so it is behind one digit
    one_more : (v u d n : ℕ) → is_digit d ≡ true → v < u → v * 10 + (d - byte "0") < u * 10 + n
    one_more v u d n h w = grind (arith, nat_tests)

-- a number is not within a smaller one
not_within : (n m : ℕ) → m < n → false ≡ nat_le n m
not_within n m h = grind (arith, nat_tests)

-- of as many digits behind the same number, the first in which they differ tells which number is the greater
same_length : (v : ℕ) (ds es : List ℕ) → length ds ≡ length es → are_digits ds ≡ true → are_digits es ≡ true
    → is_le (slice_cmp nat_cmp ds es) ≡ nat_le (number_from v ds) (number_from v es)
same_length v [] [] e h k = sym (le-leb v v (omega arith))
same_length v [] (f ∷ es) e h k = absurd (omega (arith, e))
same_length v (d ∷ ds) [] e h k = absurd (omega (arith, e))
same_length v (d ∷ ds) (f ∷ es) e h k =
    by_order (nat_cmp d f) (ranked d f (nat_cmp d f) refl)
    (λ same. same_length (v * 10 + (d - byte "0")) ds es (omega (arith, e)) (and_right (is_digit d) _ h) (and_right (is_digit f) _ k)
    ∙ ap (λ n. nat_le (number_from (v * 10 + (d - byte "0")) ds) (number_from (v * 10 + (n - byte "0")) es)) same)
  where
    -- the number behind a smaller digit is smaller
    behind : (v d f : ℕ) → is_digit d ≡ true → is_digit f ≡ true → d < f → v * 10 + (d - byte "0") < v * 10 + (f - byte "0")
    behind v d f h k l = grind (arith, nat_tests)

    -- by which digit is the greater
    by_order : (o : Ordering) → MatchOrdering o (d < f) (d ≡ f) (f < d)
        → (d ≡ f → is_le (slice_cmp nat_cmp ds es) ≡ nat_le (number_from v (d ∷ ds)) (number_from v (f ∷ es)))
        → is_le (ordering_then o (slice_cmp nat_cmp ds es)) ≡ nat_le (number_from v (d ∷ ds)) (number_from v (f ∷ es))
    by_order Less l w =
        let less = smaller_behind (v * 10 + (d - byte "0")) (v * 10 + (f - byte "0")) ds es (omega (arith, e)) (and_right (is_digit d) _ h)
        (behind v d f (and_left (is_digit d) _ h) (and_left (is_digit f) _ k) l) in
        sym (le-leb (number_from v (d ∷ ds)) (number_from v (f ∷ es)) (omega (arith, less)))
    by_order Equal l w = w l
    by_order Greater l w =
        not_within (number_from v (d ∷ ds)) (number_from v (f ∷ es))
        (smaller_behind (v * 10 + (f - byte "0")) (v * 10 + (d - byte "0")) es ds (omega (arith, e)) (and_right (is_digit f) _ k)
        (behind v f d (and_left (is_digit f) _ k) (and_left (is_digit d) _ h) l))

-- digits that are all zeros have the number 0
no_value : (ds : List ℕ) → has_value ds ≡ false → number ds ≡ 0
no_value [] h = refl
no_value (d ∷ ds) h = by_zero (d == byte "0") refl h (no_value ds)
  where
    -- the value of a zero
    zero_value : (d : ℕ) → (d == byte "0") ≡ true → 0 * 10 + (d - byte "0") ≡ 0
    zero_value d h = grind (arith, nat_tests)

    -- by whether the first is a zero
    by_zero : (b : Bool) → (d == byte "0") ≡ b → (not b || has_value ds) ≡ false → (has_value ds ≡ false → number ds ≡ 0) → number (d ∷ ds) ≡ 0
    by_zero false e w rest = absurd (true≢false w)
    by_zero true e w rest = ap (λ n. number_from n ds) (zero_value d e) ∙ rest w

-- and other digits have a greater one
some_value : (v : ℕ) (ds : List ℕ) → are_digits ds ≡ true → has_value ds ≡ true → 0 < number_from v ds
some_value v [] h k = absurd (true≢false (sym k))
some_value v (d ∷ ds) h k = by_zero (d == byte "0") refl k (some_value (v * 10 + (d - byte "0")) ds (and_right (is_digit d) _ h))
  where
    -- the value of a digit that is no zero
    more_value : (v d : ℕ) → is_digit d ≡ true → (d == byte "0") ≡ false → 0 < v * 10 + (d - byte "0")
    more_value v d h e = grind (arith, nat_tests)

    -- by whether the first is a zero
    by_zero : (b : Bool) → (d == byte "0") ≡ b → (not b || has_value ds) ≡ true → (has_value ds ≡ true → 0 < number_from v (d ∷ ds))
        → 0 < number_from v (d ∷ ds)
    by_zero true e w rest = rest w
    by_zero false e w rest =
        omega (arith, grows (v * 10 + (d - byte "0")) ds, more_value v d (and_left (is_digit d) _ h) e)

-- digits of which the front is behind others
are_digits_front : (ds es : List ℕ) → are_digits (ds ++ es) ≡ true → ((are_digits ds ≡ true) × (are_digits es ≡ true))
are_digits_front [] es h = (refl, h)
are_digits_front (d ∷ ds) es h =
    let rest = are_digits_front ds es (and_right (is_digit d) _ h) in
    (and_true _ _ (and_left (is_digit d) _ h) rest.0, rest.1)

-- a test and an order that agree say the same
agree : (b : Bool) (n m : ℕ) → b ≡ nat_le n m → IsTrue b ↔ (n ≤ m)
agree b n m e = (λ h. leb-true n m (sym e ∙ h), λ h. e ∙ le-leb n m h)

-- whether the number of digits is within that of others, of which there are no fewer
pub within : (ds es front back : List ℕ) → es ≡ front ++ back → length ds ≡ length back → are_digits ds ≡ true → are_digits es ≡ true
    → (b : Bool) → b ≡ (has_value front || is_le (slice_cmp nat_cmp ds back)) → IsTrue b ↔ (number ds ≤ number es)
within ds es front back is e h k b w =
    let both = are_digits_front front back (subst (λ z. are_digits z ≡ true) is k) in
    let whole : number es ≡ number_from (number front) back = ap number is ∙ number_append 0 front back in
    agree b (number ds) (number es) (w ∙ by_value (has_value front) refl both.0 both.1 ∙ ap (nat_le (number ds)) (sym whole))
  where
    -- by whether those in front are all zeros
    by_value : (v : Bool) → has_value front ≡ v → are_digits front ≡ true → are_digits back ≡ true
        → (v || is_le (slice_cmp nat_cmp ds back)) ≡ nat_le (number ds) (number_from (number front) back)
    by_value true c f g =
        let less = smaller_behind 0 (number front) ds back e h (some_value 0 front f c) in
        sym (le-leb (number ds) (number_from (number front) back) (omega (arith, less)))
    by_value false c f g =
        same_length 0 ds back e h g ∙ ap (λ n. nat_le (number ds) (number_from n back)) (sym (no_value front c))

-- and of which there are no more
pub longer_within : (ds es front back : List ℕ) → ds ≡ front ++ back → length back ≡ length es → are_digits ds ≡ true → are_digits es ≡ true
    → (b : Bool) → b ≡ (not (has_value front) && is_le (slice_cmp nat_cmp back es)) → IsTrue b ↔ (number ds ≤ number es)
longer_within ds es front back is e h k b w =
    let both = are_digits_front front back (subst (λ z. are_digits z ≡ true) is h) in
    let whole : number ds ≡ number_from (number front) back = ap number is ∙ number_append 0 front back in
    agree b (number ds) (number es) (w ∙ by_value (has_value front) refl both.0 both.1 ∙ ap (λ n. nat_le n (number es)) (sym whole))
  where
    -- by whether those in front are all zeros
    by_value : (v : Bool) → has_value front ≡ v → are_digits front ≡ true → are_digits back ≡ true
        → (not v && is_le (slice_cmp nat_cmp back es)) ≡ nat_le (number_from (number front) back) (number es)
    by_value true c f g =
        not_within (number_from (number front) back) (number es)
        (smaller_behind 0 (number front) es back (sym e) k (some_value 0 front f c))
    by_value false c f g =
        same_length 0 back es e g k ∙ ap (λ n. nat_le (number_from n back) (number es)) (sym (no_value front c))

-- a list that is split is its two parts
pub split_is : (n : ℕ) (ds front back : List ℕ) → front ≡ take n ds → back ≡ drop n ds → ds ≡ front ++ back
split_is n ds front back f b = sym (take-append-drop n ds) ∙ ap (λ z. z ++ drop n ds) (sym f) ∙ ap (λ z. front ++ z) (sym b)
