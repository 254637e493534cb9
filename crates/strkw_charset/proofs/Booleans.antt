-- Both of two answers, and one of them.
use Rattle.std.proofs.Common.{◌≡◌, ◌⊎◌, Bool, true, false, ◌&&◌, ◌||◌, refl, sym, inl, inr, true≢false}

-- both of two hold where each does
pub and_true : (x y : Bool) → x ≡ true → y ≡ true → (x && y) ≡ true
and_true true y u v = v
and_true false y u v = absurd (true≢false (sym u))

-- where both of two hold, the first does
pub and_left : (x y : Bool) → (x && y) ≡ true → x ≡ true
and_left true y h = refl
and_left false y h = h

-- and the second does
pub and_right : (x y : Bool) → (x && y) ≡ true → y ≡ true
and_right true y h = h
and_right false y h = absurd (true≢false (sym h))

-- where one of two holds, it is the first or the second
pub or_case : (x y : Bool) → (x || y) ≡ true → (x ≡ true) ⊎ (y ≡ true)
or_case true y h = inl refl
or_case false y h = inr h

-- one of two holds where the first does
pub or_left : (x y : Bool) → x ≡ true → (x || y) ≡ true
or_left true y h = refl
or_left false y h = absurd (true≢false (sym h))

-- and where the second does
pub or_right : (x y : Bool) → y ≡ true → (x || y) ≡ true
or_right true y h = refl
or_right false y h = h
