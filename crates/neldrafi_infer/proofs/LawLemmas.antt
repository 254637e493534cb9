-- Each value has a type that is proposed.
use Rattle.std.proofs.Common.{rules, ◌≡◌, ◌⊎◌, ℕ, zero, suc, ◌+◌, ◌<◌, ◌≤◌, Bool, true, false, cond, IsTrue, List, [], ◌∷◌, All, count_by, length, get_or, nat_lt, ◌==◌, ◌&&◌, sym, ap, refl, ◌∙◌, subst, inl, inr, arith}
use Rattle.neldrafi_infer.specs.Hypotheses.{Seen, is_integer_kind, is_number_kind, is_of_type}
use Rattle.neldrafi_infer.specs.Kinds.{is_null}
use Rattle.neldrafi_infer.specs.Properties.{HoldsIn, hypotheses, type_count}
use Rattle.neldrafi_infer.specs.Proposals.{HasProposed, IsProposed, has_some}
use Rattle.neldrafi_infer.specs.declared.hypotheses.ValueType.{ValueType}
use Rattle.neldrafi_infer.specs.declared.hypotheses.ValueType.TheVariants as of
use Rattle.neldrafi_infer.specs.declared.kinds.Kind.{Kind}
use Rattle.neldrafi_infer.specs.declared.kinds.Kind.TheVariants as kind
use Rattle.neldrafi_infer.specs.declared.property.Group.TheVariants.{Types}
use Rattle.neldrafi_infer.proofs.PropertyLemmas.{count_first}

one_le : (a b : Bool) → (a ≡ true → b ≡ true) → cond a 1 0 ≤ cond b 1 0
one_le true true h = omega arith
one_le true false h = let wrong : false ≡ true = h refl in absurd (search rules)
one_le false true h = omega arith
one_le false false h = omega arith

-- what passes one test passes the other, so that no more pass it
count_le : (p q : Seen → Bool) → ((s : Seen) → p s ≡ true → q s ≡ true) → (ss : List Seen) → count_by p ss ≤ count_by q ss
count_le p q h [] = omega arith
count_le p q h (s ∷ ss) =
    let a = count_first p s ss in
    let b = count_first q s ss in
    let one = one_le (p s) (q s) (h s) in
    let rest = count_le p q h ss in
    omega (arith, a, b, one, rest)

-- .. and fewer if a value passes the other alone
count_less : (p q : Seen → Bool) → ((s : Seen) → p s ≡ true → q s ≡ true) → (ss : List Seen) (k : ℕ) (d : Seen) → k < length ss → p (get_or ss k d) ≡ false → q (get_or ss k d) ≡ true → count_by p ss < count_by q ss
count_less p q h [] k d less fails passes = absurd (let wrong : k < 0 = less in omega (arith, wrong))
count_less p q h (s ∷ ss) zero d less fails passes =
    let a = count_first p s ss ∙ ap (λ b. cond b 1 0 + count_by p ss) fails in
    let b = count_first q s ss ∙ ap (λ c. cond c 1 0 + count_by q ss) passes in
    let rest = count_le p q h ss in
    omega (arith, a, b, rest)
count_less p q h (s ∷ ss) (suc k) d less fails passes =
    let a = count_first p s ss in
    let b = count_first q s ss in
    let one = one_le (p s) (q s) (h s) in
    let rest = count_less p q h ss k d (let l : suc k < suc (length ss) = less in omega (arith, l)) fails passes in
    omega (arith, a, b, one, rest)

-- a value that passes is counted
counted : (q : Seen → Bool) (ss : List Seen) (k : ℕ) (d : Seen) → k < length ss → q (get_or ss k d) ≡ true → 0 < count_by q ss
counted q ss k d less passes =
    let more = count_less (λ _. false) q (λ s wrong. let w : false ≡ true = wrong in absurd (search rules)) ss k d less refl passes in
    omega (arith, more)

integers_are_numbers : (k : Kind) → is_integer_kind k ≡ true → is_number_kind k ≡ true
integers_are_numbers kind.Integer is = refl
integers_are_numbers kind.IntegerField is = refl
integers_are_numbers kind.Null is = is
integers_are_numbers kind.Boolean is = is
integers_are_numbers kind.Number is = refl
integers_are_numbers kind.String is = is
integers_are_numbers kind.Array is = is
integers_are_numbers kind.Object is = is
integers_are_numbers kind.BooleanField is = is
integers_are_numbers kind.NumberField is = refl

abbrev NoneHeld : List Seen → Type 0
NoneHeld ss = All (λ h. HoldsIn Types ss h → ⊥) hypotheses

-- a value of a type that is no number's
of_other : (ss : List Seen) (none : NoneHeld ss) (t : ValueType) (k : ℕ) (d : Seen) → k < length ss → has_some ss t ≡ nat_lt 0 (type_count t ss) → is_of_type t (get_or ss k d).kind ≡ true → HasProposed ss (get_or ss k d)
of_other ss none t k d less same is =
    let some : 0 < type_count t ss = counted (λ s. is_of_type t s.kind) ss k d less is in
    let has : nat_lt 0 (type_count t ss) ≡ true = search rules in
    inr (t, inr (none, same ∙ has), is)

-- an integer
integer_if : (ss : List Seen) (none : NoneHeld ss) (k : ℕ) (d : Seen) → k < length ss → is_integer_kind (get_or ss k d).kind ≡ true → (b : Bool) → (type_count of.Integer ss == type_count of.Number ss) ≡ b → HasProposed ss (get_or ss k d)
integer_if ss none k d less is true same =
    let some : 0 < type_count of.Integer ss = counted (λ s. is_integer_kind s.kind) ss k d less is in
    let has : nat_lt 0 (type_count of.Integer ss) ≡ true = search rules in
    inr (of.Integer, inr (none, ap (λ b. b && (type_count of.Integer ss == type_count of.Number ss)) has ∙ same), is)
integer_if ss none k d less is false same =
    let most = count_le (λ s. is_integer_kind s.kind) (λ s. is_number_kind s.kind) (λ s. integers_are_numbers s.kind) ss in
    let other : type_count of.Integer ss ≡ type_count of.Number ss → ⊥ = λ e. search rules in
    let fewer : type_count of.Integer ss < type_count of.Number ss = grind (arith, most, other) in
    let has : nat_lt (type_count of.Integer ss) (type_count of.Number ss) ≡ true = search rules in
    inr (of.Number, inr (none, has), integers_are_numbers (get_or ss k d).kind is)

-- .. and another number
of_integer : (ss : List Seen) (none : NoneHeld ss) (k : ℕ) (d : Seen) → k < length ss → is_integer_kind (get_or ss k d).kind ≡ true → HasProposed ss (get_or ss k d)
of_integer ss none k d less is = integer_if ss none k d less is (type_count of.Integer ss == type_count of.Number ss) refl

of_number : (ss : List Seen) (none : NoneHeld ss) (k : ℕ) (d : Seen) → k < length ss → is_integer_kind (get_or ss k d).kind ≡ false → is_number_kind (get_or ss k d).kind ≡ true → HasProposed ss (get_or ss k d)
of_number ss none k d less other is =
    let fewer : type_count of.Integer ss < type_count of.Number ss = count_less (λ s. is_integer_kind s.kind) (λ s. is_number_kind s.kind) (λ s. integers_are_numbers s.kind) ss k d less other is in
    let has : nat_lt (type_count of.Integer ss) (type_count of.Number ss) ≡ true = search rules in
    inr (of.Number, inr (none, has), is)

-- by the kind of a value
by_kind : (ss : List Seen) (none : NoneHeld ss) (n : ℕ) (d : Seen) → n < length ss → (k : Kind) → (get_or ss n d).kind ≡ k → HasProposed ss (get_or ss n d)
by_kind ss none n d less kind.Null is = inl (ap is_null is)
by_kind ss none n d less kind.Boolean is = of_other ss none of.Boolean n d less refl (ap (is_of_type of.Boolean) is)
by_kind ss none n d less kind.Integer is = of_integer ss none n d less (ap is_integer_kind is)
by_kind ss none n d less kind.Number is = of_number ss none n d less (ap is_integer_kind is) (ap is_number_kind is)
by_kind ss none n d less kind.String is = of_other ss none of.String n d less refl (ap (is_of_type of.String) is)
by_kind ss none n d less kind.Array is = of_other ss none of.Array n d less refl (ap (is_of_type of.Array) is)
by_kind ss none n d less kind.Object is = of_other ss none of.Object n d less refl (ap (is_of_type of.Object) is)
by_kind ss none n d less kind.BooleanField is = of_other ss none of.Boolean n d less refl (ap (is_of_type of.Boolean) is)
by_kind ss none n d less kind.IntegerField is = of_integer ss none n d less (ap is_integer_kind is)
by_kind ss none n d less kind.NumberField is = of_number ss none n d less (ap is_integer_kind is) (ap is_number_kind is)

pub all_proposed : (ss : List Seen) → NoneHeld ss → All (HasProposed ss) ss
all_proposed ss none n d less = by_kind ss none n d less (get_or ss n d).kind refl
