use Rattle.std.proofs.Common.{◌≡◌, ◌∙◌, refl, sym, ap, ℤ, pos, int_lt, Bool, true, false, w64, to_z, of_z}
use Rattle.std.proofs.Math.Path.{ap₂}
use Rattle.std.specs.Prelude.{◌&&◌, ◌==◌, Float, unsigned_abs}
use Rattle.std.specs.Float.{float_to_signed, float_to_unsigned}
use Rattle.std.proofs.lemmas.Int.{to_z-of_z}
use lib.Ieee.{binary64, neg, of_bits}
use Rattle.neldrafi_schema.proofs.Literals.{zero_is, high_is, low_is}
use mir.Syntax.{w128}
use mir.Val.{SFits}
use Rattle.neldrafi_schema.specs.Numbers.{is_between, is_float_of, is_whole_float}
use Rattle.neldrafi_schema.proofs.numbers.is_float_of.Goals as goal

negative : (z : ℤ) (x : Float) (whole within : Bool) → SFits w128 z → whole ≡ is_whole_float x → whole ≡ true → int_lt (to_z w128 (of_z w128 z)) (pos 0) ≡ true
    → within ≡ is_between (neg (of_bits binary64 0x43e0_0000_0000_0000)) x (of_bits binary64 0)
    → (within && (unsigned_abs (float_to_signed w64 x) == unsigned_abs z)) ≡ is_float_of z x
negative z x whole within fits e w less f =
    let is_less : int_lt z (pos 0) ≡ true = ap (λ y. int_lt y (pos 0)) (sym (to_z-of_z w128 z fits)) ∙ less in
    rw (sym e ∙ w, is_less, f ∙ ap₂ (λ a b. is_between a x b) low_is zero_is) refl

other : (z : ℤ) (x : Float) (whole within : Bool) → SFits w128 z → whole ≡ is_whole_float x → whole ≡ true → int_lt (to_z w128 (of_z w128 z)) (pos 0) ≡ false
    → within ≡ is_between (of_bits binary64 0) x (of_bits binary64 0x43f0_0000_0000_0000)
    → (within && (float_to_unsigned w64 x == unsigned_abs z)) ≡ is_float_of z x
other z x whole within fits e w less f =
    let is_less : int_lt z (pos 0) ≡ false = ap (λ y. int_lt y (pos 0)) (sym (to_z-of_z w128 z fits)) ∙ less in
    rw (sym e ∙ w, is_less, f ∙ ap₂ (λ a b. is_between a x b) zero_is high_is) refl

pub returns-then-is_between : goal.returns-then-is_between
returns-then-is_between c =
    let own = negative c.args.whole c.args.x c.is_whole_float.result c.is_between.result c.ranges.whole c.is_whole_float.ensures c.if-not-is_whole_float.false
    c.if-whole-lt0.true c.is_between.ensures in
    let cut : c.from.result ≡ unsigned_abs (float_to_signed w64 c.args.x) =
    c.from.ensures ∙ c.unsigned_abs.ensures.value ∙ ap unsigned_abs (to_z-of_z w64 c.saturating_f64_to_i64.result (record { sfits = c.saturating_f64_to_i64.type_inv }) ∙ c.saturating_f64_to_i64.ensures) in
    let all : c.unsigned_abs-then-is_between.result ≡ unsigned_abs c.args.whole =
    c.unsigned_abs-then-is_between.ensures.value ∙ ap unsigned_abs (to_z-of_z w128 c.args.whole c.ranges.whole) in
    rw (cut, all) (rw c.if-is_between.true at own)

pub returns-else-is_between : goal.returns-else-is_between
returns-else-is_between c =
    let own = negative c.args.whole c.args.x c.is_whole_float.result c.is_between.result c.ranges.whole c.is_whole_float.ensures c.if-not-is_whole_float.false
    c.if-whole-lt0.true c.is_between.ensures in
    c.if-is_between.false ∙ rw c.if-is_between.false at own

pub returns-then-is_between-2 : goal.returns-then-is_between-2
returns-then-is_between-2 c =
    let own = other c.args.whole c.args.x c.is_whole_float.result c.is_between-else-whole-lt0.result c.ranges.whole c.is_whole_float.ensures c.if-not-is_whole_float.false
    c.if-whole-lt0.false c.is_between-else-whole-lt0.ensures in
    let cut : c.from-then-is_between-2.result ≡ float_to_unsigned w64 c.args.x = c.from-then-is_between-2.ensures ∙ c.saturating_f64_to_u64.ensures in
    let all : c.unsigned_abs-then-is_between-2.result ≡ unsigned_abs c.args.whole =
    c.unsigned_abs-then-is_between-2.ensures.value ∙ ap unsigned_abs (to_z-of_z w128 c.args.whole c.ranges.whole) in
    rw (cut, all) (rw c.if-is_between-2.true at own)

pub returns-else-is_between-2 : goal.returns-else-is_between-2
returns-else-is_between-2 c =
    let own = other c.args.whole c.args.x c.is_whole_float.result c.is_between-else-whole-lt0.result c.ranges.whole c.is_whole_float.ensures c.if-not-is_whole_float.false
    c.if-whole-lt0.false c.is_between-else-whole-lt0.ensures in
    c.if-is_between-2.false ∙ rw c.if-is_between-2.false at own
