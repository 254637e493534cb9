-- Floats that compare equal: they have the same whole part, lie between the same bounds, and have the same key.
use Rattle.std.proofs.Common.{◌≡◌, ◌≢◌, ◌∙◌, refl, sym, ap, ℕ, ◌*◌, ◌/◌, ◌<◌, ◌^◌, ◌-◌, Bool, true, false, pos, ℤ, T, min, w64, true≢false, Less, Equal, Greater}
use Rattle.std.proofs.Math.Path.{ap₂}
use Rattle.std.proofs.Math.Nat.{eq_of_mul-eq-mul_right, zero-mul, zero-div, mul-zero}
use Rattle.std.specs.Prelude.{◌&&◌, Float, cond, neg_ℤ, not}
use Rattle.std.specs.Bool.{passes}
use Rattle.std.specs.Ordering.{is_eq}
use Rattle.std.specs.Float.{binary64, float_key, float_to_signed, float_to_unsigned, round_with}
use Rattle.std.specs.Float.Cmp.{same_key}
use Rattle.std.specs.Float.Order as floats
use lib.Dec.{eqb→eq}
use lib.Ieee.{eq, fin, inf, is_nan, le, level, lt, nan, to_signed, to_unsigned, up, down, round}
use lib.Ieee.Fits.{and_l, and_r, down_pos}
use lib.Ieee.Nearest.{div_same}
use Rattle.neldrafi_schema.specs.Numbers.{is_between, is_whole_float}
use Rattle.neldrafi_schema.specs.machine.Keys.{float_bytes, is_natural, is_negative_whole}

both_ways : (a b : Bool) → (T a → T b) → (T b → T a) → a ≡ b
both_ways true true f g = refl
both_ways true false f g = absurd (f tt)
both_ways false true f g = absurd (g tt)
both_ways false false f g = refl

is_true : (a : Bool) → T a → a ≡ true
is_true true h = refl
is_true false h = absurd h

le_right : (a x y : Float) → T (eq x y) → le a x ≡ le a y
le_right a x y e =
    both_ways (le a x) (le a y) (λ h. floats.le_trans a x y h (floats.le_of_eq x y e)) (λ h. floats.le_trans a y x h (floats.le_of_eq y x (floats.eq_flip x y e)))

lt_left : (b x y : Float) → T (eq x y) → lt x b ≡ lt y b
lt_left b x y e =
    both_ways (lt x b) (lt y b) (floats.lt_of_le_of_lt y x b (floats.le_of_eq y x (floats.eq_flip x y e))) (floats.lt_of_le_of_lt x y b (floats.le_of_eq x y e))

eq_right : (z x y : Float) → T (eq x y) → eq z x ≡ eq z y
eq_right z x y e = both_ways (eq z x) (eq z y) (λ h. floats.eq_trans z x y h e) (λ h. floats.eq_trans z y x h (floats.eq_flip x y e))

between : (a b x y : Float) → T (eq x y) → is_between a x b ≡ is_between a y b
between a b x y e = ap₂ (λ s t. s && t) (le_right a x y e) (lt_left b x y e)

-- ---- the whole part

none : (a d : ℕ) → 0 < d → a * d ≡ 0 → a ≡ 0
none a d h e = eq_of_mul-eq-mul_right d h a 0 (e ∙ sym (zero-mul d))

crossed : (m n : ℕ) (e d : ℤ) (s t : Bool) → T (level s (m * up e * down d) t (n * up d * down e)) → m * up e * down d ≡ n * up d * down e
crossed m n e d s t h = eqb→eq (m * up e * down d) (n * up d * down e) (and_l _ _ h)

same_cut : (m n : ℕ) (e d : ℤ) → m * up e * down d ≡ n * up d * down e → m * up e / down e ≡ n * up d / down d
same_cut m n e d h = div_same (m * up e) (down e) (n * up d) (down d) (down_pos e) (down_pos d) h

-- of two with unlike signs, each is 0
none_left : (m : ℕ) (e d : ℤ) (n : ℕ) (s t : Bool) → T (level s (m * up e * down d) t n) → s ≢ t → m * up e ≡ 0
none_left m e d n true true h u = absurd (u refl)
none_left m e d n false false h u = absurd (u refl)
none_left m e d n true false h u = none (m * up e) (down d) (down_pos d) (eqb→eq (m * up e * down d) 0 (and_r _ _ h))
none_left m e d n false true h u = none (m * up e) (down d) (down_pos d) (eqb→eq (m * up e * down d) 0 (and_r _ _ h))

none_right : (m n : ℕ) (e d : ℤ) (s t : Bool) → T (level s (m * up e * down d) t (n * up d * down e)) → s ≢ t → n * up d ≡ 0
none_right m n e d s t h u =
    none (n * up d) (down e) (down_pos e) (sym (crossed m n e d s t h) ∙ ap (λ k. k * down d) (none_left m e d (n * up d * down e) s t h u) ∙ zero-mul (down d))

cut_of_none : (a d : ℕ) → a ≡ 0 → a / d ≡ 0
cut_of_none a d e = ap (λ n. n / d) e ∙ zero-div d

pub same_unsigned : (x y : Float) → T (eq x y) → float_to_unsigned w64 x ≡ float_to_unsigned w64 y
unfolding eq to_unsigned
same_unsigned nan y h = absurd h
same_unsigned (inf s) nan h = absurd h
same_unsigned (inf true) (inf true) h = refl
same_unsigned (inf true) (inf false) h = absurd h
same_unsigned (inf false) (inf true) h = absurd h
same_unsigned (inf false) (inf false) h = refl
same_unsigned (inf s) (fin t n d) h = absurd h
same_unsigned (fin s m e) nan h = absurd h
same_unsigned (fin s m e) (inf t) h = absurd h
same_unsigned (fin true m e) (fin true n d) h = refl
same_unsigned (fin false m e) (fin false n d) h = ap (λ q. min q (2 ^ 64 - 1)) (same_cut m n e d (crossed m n e d false false h))
same_unsigned (fin true m e) (fin false n d) h = sym (ap (λ q. min q (2 ^ 64 - 1)) (cut_of_none (n * up d) (down d) (none_right m n e d true false h true≢false)))
same_unsigned (fin false m e) (fin true n d) h = ap (λ q. min q (2 ^ 64 - 1)) (cut_of_none (m * up e) (down e) (none_left m e d (n * up d * down e) false true h (λ u. true≢false (sym u))))

pub same_signed : (x y : Float) → T (eq x y) → float_to_signed w64 x ≡ float_to_signed w64 y
unfolding eq to_signed
same_signed nan y h = absurd h
same_signed (inf s) nan h = absurd h
same_signed (inf true) (inf true) h = refl
same_signed (inf true) (inf false) h = absurd h
same_signed (inf false) (inf true) h = absurd h
same_signed (inf false) (inf false) h = refl
same_signed (inf s) (fin t n d) h = absurd h
same_signed (fin s m e) nan h = absurd h
same_signed (fin s m e) (inf t) h = absurd h
same_signed (fin true m e) (fin true n d) h = ap (λ q. neg_ℤ (pos (min q (2 ^ 63)))) (same_cut m n e d (crossed m n e d true true h))
same_signed (fin false m e) (fin false n d) h = ap (λ q. pos (min q (2 ^ 63 - 1))) (same_cut m n e d (crossed m n e d false false h))
same_signed (fin true m e) (fin false n d) h =
    ap (λ q. neg_ℤ (pos (min q (2 ^ 63)))) (cut_of_none (m * up e) (down e) (none_left m e d (n * up d * down e) true false h true≢false))
    ∙ sym (ap (λ q. pos (min q (2 ^ 63 - 1))) (cut_of_none (n * up d) (down d) (none_right m n e d true false h true≢false)))
same_signed (fin false m e) (fin true n d) h =
    ap (λ q. pos (min q (2 ^ 63 - 1))) (cut_of_none (m * up e) (down e) (none_left m e d (n * up d * down e) false true h (λ u. true≢false (sym u))))
    ∙ sym (ap (λ q. neg_ℤ (pos (min q (2 ^ 63)))) (cut_of_none (n * up d) (down d) (none_right m n e d false true h (λ u. true≢false (sym u)))))

-- ---- being whole

eq_zero : (s : Bool) (a b : ℕ) → a ≡ 0 → b ≡ 0 → level s a s b ≡ true
eq_zero true a b p q = rw (p, q) refl
eq_zero false a b p q = rw (p, q) refl

cut_zero : (s : Bool) → round binary64 s 0 1 ≡ fin s 0 (pos 0)
unfolding round
cut_zero true = refl
cut_zero false = refl

zero_whole : (s : Bool) (m : ℕ) (e : ℤ) → m * up e ≡ 0 → is_whole_float (fin s m e) ≡ true
unfolding eq round_with
zero_whole true m e h =
    ap (λ q. eq (round binary64 true q 1) (fin true m e)) (cut_of_none (m * up e) (down e) h) ∙ ap (λ x. eq x (fin true m e)) (cut_zero true)
    ∙ eq_zero true (0 * up (pos 0) * down e) (m * up e * down (pos 0)) (zero-mul (down e)) (ap (λ n. n * 1) h)
zero_whole false m e h =
    ap (λ q. eq (round binary64 false q 1) (fin false m e)) (cut_of_none (m * up e) (down e) h) ∙ ap (λ x. eq x (fin false m e)) (cut_zero false)
    ∙ eq_zero false (0 * up (pos 0) * down e) (m * up e * down (pos 0)) (zero-mul (down e)) (ap (λ n. n * 1) h)

like : (x y z w : Float) → T (eq x y) → z ≡ w → eq z x ≡ eq w y
like x y z w e p = ap (λ a. eq a x) p ∙ eq_right w x y e

pub same_whole : (x y : Float) → T (eq x y) → is_whole_float x ≡ is_whole_float y
unfolding eq round_with
same_whole nan y h = absurd h
same_whole (inf s) nan h = absurd h
same_whole (inf true) (inf true) h = refl
same_whole (inf true) (inf false) h = absurd h
same_whole (inf false) (inf true) h = absurd h
same_whole (inf false) (inf false) h = refl
same_whole (inf s) (fin t n d) h = absurd h
same_whole (fin s m e) nan h = absurd h
same_whole (fin s m e) (inf t) h = absurd h
same_whole (fin true m e) (fin true n d) h =
    like (fin true m e) (fin true n d) _ _ h (ap (λ q. round binary64 true q 1) (same_cut m n e d (crossed m n e d true true h)))
same_whole (fin false m e) (fin false n d) h =
    like (fin false m e) (fin false n d) _ _ h (ap (λ q. round binary64 false q 1) (same_cut m n e d (crossed m n e d false false h)))
same_whole (fin true m e) (fin false n d) h =
    zero_whole true m e (none_left m e d (n * up d * down e) true false h true≢false)
    ∙ sym (zero_whole false n d (none_right m n e d true false h true≢false))
same_whole (fin false m e) (fin true n d) h =
    zero_whole false m e (none_left m e d (n * up d * down e) false true h (λ u. true≢false (sym u)))
    ∙ sym (zero_whole true n d (none_right m n e d false true h (λ u. true≢false (sym u))))

-- ---- the key

level_cmp : (a b l g : Bool) → a ≡ false → b ≡ false → l ≡ false → g ≡ false
    → is_eq (cond a (cond b Equal Greater) (cond b Less (cond l Less (cond g Greater Equal)))) ≡ true
level_cmp a b l g p q r s = rw (p, q, r, s) refl

pub is_false : (a : Bool) → ¬ (T a) → a ≡ false
is_false true h = absurd (h tt)
is_false false h = refl

clash : (a : Bool) → T a → ¬ (T (not a))
clash true h k = k
clash false h k = h

no_nan : (x : Float) → T (not (is_nan x)) → is_nan x ≡ false
no_nan x h = is_false (is_nan x) (λ k. clash (is_nan x) k h)

pub same_bits : (x y : Float) → T (eq x y) → float_key binary64 x ≡ float_key binary64 y
same_bits x y h =
    let back = floats.eq_flip x y h in
    same_key binary64 x y (level_cmp (is_nan x) (is_nan y) (lt x y) (lt y x)
    (no_nan x (floats.le_left x y (floats.le_of_eq x y h))) (no_nan y (floats.le_right x y (floats.le_of_eq x y h)))
    (is_false (lt x y) (floats.eq-not_lt x y h)) (is_false (lt y x) (floats.eq-not_lt y x back)))

same_natural : (x y : Float) → T (eq x y) → is_natural x ≡ is_natural y
same_natural x y h = ap₂ (λ a b. a && b) (same_whole x y h) (between _ _ x y h)

same_negative : (x y : Float) → T (eq x y) → is_negative_whole x ≡ is_negative_whole y
same_negative x y h = ap₂ (λ a b. a && b) (same_whole x y h) (between _ _ x y h)

pub same_float : (x y : Float) → T (eq x y) → float_bytes x ≡ float_bytes y
same_float x y h = rw (same_natural x y h, same_negative x y h, same_unsigned x y h, same_signed x y h, same_bits x y h) refl
