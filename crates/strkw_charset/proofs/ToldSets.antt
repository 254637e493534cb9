-- The answers about a character tell its column.
use Rattle.std.proofs.Common.{◌≡◌, ℕ, zero, suc, ◌+◌, ◌*◌, ◌<◌, Bool, true, false, List, [], ◌∷◌, Vec, Global, Option, Some, None, length, get_or}
use Rattle.std.proofs.Common.{refl, sym, ap, ◌∙◌, true≢false, if◌then◌else◌, ◌==◌, option_map, arith}
use Rattle.std.proofs.lemmas.Bool.{eqb-true}
use Rattle.std.specs.Prelude.{is_some}
use Rattle.strkw_charset.specs.Membership.{in_sets}
use Rattle.strkw_charset.specs.machine.CharClasses.{answers, place_of, TellsSets}
use Rattle.strkw_charset.specs.declared.tree.CharSet.{CharSet}

-- the digits are the answers
-- with a binary digit put behind each, two numbers are the same only where they and the digits are
one_digit : (a b : ℕ) (x y : Bool) → 2 * a + (if x then 1 else 0) ≡ 2 * b + (if y then 1 else 0) → (a ≡ b) × (x ≡ y)
one_digit a b true true e = (omega arith, refl)
one_digit a b false false e = (omega arith, refl)
one_digit a b true false e = absurd (omega arith)
one_digit a b false true e = absurd (omega arith)

-- behind different numbers the answers are never the same
same_before : (ks : List (Vec CharSet Global)) (a b c d : ℕ) → answers a ks c ≡ answers b ks d → a ≡ b
same_before [] a b c d e = e
same_before (k ∷ ks) a b c d e = (one_digit a b _ _ (same_before ks _ _ c d e)).0

-- of two characters with the same answers each class has both or neither
pub told_at : (ks : List (Vec CharSet Global)) (n : ℕ) (k : Vec CharSet Global) (a b c d : ℕ) → n < length ks → k ≡ get_or ks n k
    → answers a ks c ≡ answers b ks d → in_sets k.items c ≡ in_sets k.items d
told_at [] n k a b c d h is e = absurd (omega arith)
told_at (j ∷ ks) zero k a b c d h is e =
    let here : in_sets j.items c ≡ in_sets j.items d = (one_digit a b _ _ (same_before ks _ _ c d e)).1 in
    ap (λ (l : Vec CharSet Global). in_sets l.items c) is ∙ here ∙ ap (λ (l : Vec CharSet Global). in_sets l.items d) (sym is)
told_at (j ∷ ks) (suc n) k a b c d h is e = told_at ks n k _ _ c d (omega arith) is e

-- sets that are those of a class are told
pub told_by : (ks : List (Vec CharSet Global)) (n : ℕ) (k : Vec CharSet Global) (rs : List CharSet) → n < length ks → k ≡ get_or ks n k
    → ((c : ℕ) → in_sets k.items c ≡ in_sets rs c) → TellsSets ks rs
told_by ks n k rs h is same c d e = sym (same c) ∙ told_at ks n k 0 0 c d h is e ∙ same d

-- `None` is not `Some` of a number
none_some : (i : ℕ) → None ≡ Some i → ⊥
none_some i h = true≢false (sym (ap is_some h))

-- the place of a number has it
-- so it is with one number more in front, if it is so of the others
place_step : (k n : ℕ) (ks : List ℕ) (x : Bool) (o : Option ℕ) → (k == n) ≡ x → place_of ks n ≡ o
    → ((i : ℕ) → place_of ks n ≡ Some i → (i < length ks) × (get_or ks i 0 ≡ n))
    → (i : ℕ) → (if x then Some 0 else option_map suc o) ≡ Some i → (i < suc (length ks)) × (get_or (k ∷ ks) i 0 ≡ n)
place_step k n ks true o e f rest i h =
    let first : 0 ≡ i = cc in
    let same : k ≡ n = eqb-true k n e in
    rw (sym first) (omega arith, same)
place_step k n ks false None e f rest i h = absurd (none_some i h)
place_step k n ks false (Some j) e f rest i h =
    let next : suc j ≡ i = cc in
    let there = rest j f in
    rw (sym next) (omega (arith, there.0), there.1)

-- the place of a number lies in the list, and the number stands there
pub place_is : (ks : List ℕ) (n i : ℕ) → place_of ks n ≡ Some i → (i < length ks) × (get_or ks i 0 ≡ n)
place_is [] n i h = absurd (none_some i h)
place_is (k ∷ ks) n i h = place_step k n ks (k == n) (place_of ks n) refl refl (place_is ks n) i h
