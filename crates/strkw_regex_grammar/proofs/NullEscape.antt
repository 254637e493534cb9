-- The walk over a pattern that looks for a digit behind `\0`.
use Rattle.std.proofs.Common.{◌≡◌, ℕ, suc, ◌<◌, Bool, true, false, ◌&&◌, List, ◌∷◌, length, get_or, drop, drop_of_length-le, refl, sym, ap, ◌∙◌}
use Rattle.std.proofs.Common.{arith}
use Rattle.strkw_regex_grammar.specs.NullEscape.{Front, neither, after, may_precede, is_apart_from}
use Rattle.strkw_charset.proofs.Lists.{at_place}

-- two do not both hold where the first does not
and_false : (x y : Bool) → x ≡ false → (x && y) ≡ false
and_false x y e = rw e refl

-- they do exactly where the second does, if the first holds
and_true : (x y : Bool) → x ≡ true → (x && y) ≡ y
and_true x y e = rw e refl

module _ (text : List ℕ) (f : Front) (k : ℕ) (so_far : is_apart_from f (drop k text) ≡ is_apart_from neither text) where
  module _ (next c : ℕ) (within : k < length text) (is : c ≡ get_or text k c) (follows : next ≡ suc k) where
    -- the character at the place and the rest behind it are apart exactly where the whole text is
    here : is_apart_from f (c ∷ drop next text) ≡ is_apart_from neither text
    here = sym (ap (is_apart_from f) (at_place text k next c within is follows)) ∙ so_far

    -- where the character may not stand there, the text is not apart
    pub turn_stops : may_precede f c ≡ false → false ≡ is_apart_from neither text
    turn_stops e = sym (and_false _ _ e) ∙ here

    -- where it may, the rest behind it is apart exactly where the text is
    pub turn_goes : may_precede f c ≡ true → (g : Front) → g ≡ after f c → is_apart_from g (drop next text) ≡ is_apart_from neither text
    turn_goes e g is = ap (λ (h : Front). is_apart_from h (drop next text)) is ∙ sym (and_true _ _ e) ∙ here

  -- at the end of the text, the text is apart
  pub turn_ends : k ≡ length text → true ≡ is_apart_from neither text
  turn_ends whole = sym (ap (is_apart_from f) (drop_of_length-le text {i = k} (omega (arith, whole)))) ∙ so_far
