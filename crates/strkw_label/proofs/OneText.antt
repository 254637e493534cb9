-- A payload stands for one text: the digits in a row are read in one way only.
use Rattle.std.proofs.Common.{◌≡◌, ℕ, suc, ◌+◌, ◌≤◌, ◌==◌, List, [], ◌∷◌, ◌++◌, length, refl, sym, ap, ap₂, subst, ◌∙◌, arith}
use Rattle.strkw_label.specs.Punycode.{Insertion}
use Rattle.strkw_label.specs.Punycode.{digit_char, adapt, weighted_sum, digits_of, EndsBelowThreshold, basic_of, punycode, insertions, SameUpToCase}
use Rattle.strkw_label.specs.Encoded.{InOrder, digits_written}
use Rattle.strkw_label.specs.Placement.{place_all}
use Rattle.strkw_label.proofs.VariableLengthIntegers.{AreDigitsOf-digits_of}
use Rattle.strkw_label.proofs.ReadDelta.{written, digit_char-injective}
use Rattle.strkw_label.proofs.DeltaCoding.{delta_of, read_at, read_at-delta_of, digits_written-nil, digits_written-cons, some_digits}
use Rattle.strkw_label.proofs.Insertions.{InOrder-first, InOrder-rest, IsMade-text}
use Rattle.strkw_label.proofs.Payloads.{digits_of_text, payload_parts}

-- where the digits of a delta end is settled by the digits themselves
one_front : (bias j : ℕ) (ds es r s : List ℕ) → EndsBelowThreshold bias j ds → EndsBelowThreshold bias j es → written ds ++ r ≡ written es ++ s → (ds ≡ es)
    × (r ≡ s)
unfolding EndsBelowThreshold
one_front bias j [] es r s hd he e = absurd hd
one_front bias j (d ∷ []) [] r s hd he e = absurd he
one_front bias j (d ∷ []) (d' ∷ []) r s hd he e =
    let first : digit_char d ≡ digit_char d' = cc in
    let rest : r ≡ s = cc in
    (ap (λ x. x ∷ []) (digit_char-injective d d' (omega arith) (omega arith) first), rest)
one_front bias j (d ∷ []) (d' ∷ e' ∷ es) r s hd he e =
    let first : digit_char d ≡ digit_char d' = cc in
    absurd (omega (arith, digit_char-injective d d' (omega arith) (omega (arith, he.1)) first, he.0))
one_front bias j (d ∷ c ∷ ds) [] r s hd he e = absurd he
one_front bias j (d ∷ c ∷ ds) (d' ∷ []) r s hd he e =
    let first : digit_char d ≡ digit_char d' = cc in
    absurd (omega (arith, digit_char-injective d d' (omega (arith, hd.1)) (omega arith) first, hd.0))
one_front bias j (d ∷ c ∷ ds) (d' ∷ c' ∷ es) r s hd he e =
    let first : digit_char d ≡ digit_char d' = cc in
    let tail : written (c ∷ ds) ++ r ≡ written (c' ∷ es) ++ s = cc in
    let more = one_front bias (suc j) (c ∷ ds) (c' ∷ es) r s hd.2 he.2 tail in
    (ap₂ ◌∷◌ (digit_char-injective d d' (omega (arith, hd.1)) (omega (arith, he.1)) first) more.0, more.1)

-- where the digits of two deltas, and rests behind them, make one text, deltas and rests are the same
one_delta : (bias d e : ℕ) (r s : List ℕ) → written (digits_of bias d) ++ r ≡ written (digits_of bias e) ++ s → (d ≡ e) × (r ≡ s)
one_delta bias d e r s h =
    let are = AreDigitsOf-digits_of bias d in
    let too = AreDigitsOf-digits_of bias e in
    let both = one_front bias 0 (digits_of bias d) (digits_of bias e) r s are.ends too.ends h in
    (sym are.sum ∙ ap (weighted_sum bias 0) both.0 ∙ too.sum, both.1)

-- and a delta is that of one insertion
-- so insertions in order that have the same digits are the same
one_list : (n i bias placed : ℕ) (xs ys : List Insertion) → i ≤ placed → InOrder n i placed xs → InOrder n i placed ys
    → digits_written n i bias placed xs ≡ digits_written n i bias placed ys → xs ≡ ys
one_list n i bias placed [] [] le ox oy e = refl
one_list n i bias placed [] (y ∷ ys) le ox oy e = absurd
    (some_digits bias (delta_of n i placed y) _ (sym (sym (digits_written-nil n i bias placed) ∙ e ∙ digits_written-cons n i bias placed y ys)))
one_list n i bias placed (x ∷ xs) [] le ox oy e = absurd
    (some_digits bias (delta_of n i placed x) _ (sym (digits_written-cons n i bias placed x xs) ∙ e ∙ digits_written-nil n i bias placed))
one_list n i bias placed (x ∷ xs) (y ∷ ys) le ox oy e =
    let fx = InOrder-first n i placed x xs ox in
    let fy = InOrder-first n i placed y ys oy in
    let both = one_delta bias (delta_of n i placed x) (delta_of n i placed y) _ _
    (sym (digits_written-cons n i bias placed x xs) ∙ e ∙ digits_written-cons n i bias placed y ys) in
    let same : x ≡ y = sym (read_at-delta_of n i placed x le fx) ∙ ap (λ d. read_at n (i + d) placed) both.0 ∙ read_at-delta_of n i placed y le fy in
    let more = one_list x.point (x.place + 1) (adapt (delta_of n i placed x) (placed + 1) (i == 0)) (placed + 1) xs ys (omega (arith, fx.within))
    (InOrder-rest n i placed x xs ox)
    (subst (λ z. InOrder z.point (z.place + 1) (placed + 1) ys) (sym same) (InOrder-rest n i placed y ys oy))
    (both.1 ∙ ap (λ z. digits_written z.point (z.place + 1) (adapt (delta_of n i placed z) (placed + 1) (i == 0)) (placed + 1) ys) (sym same)) in
    ap₂ ◌∷◌ same more

-- a payload is, up to letter case, the Punycode of one text at most
pub one_text : (payload s t : List ℕ) → SameUpToCase payload (punycode s) → SameUpToCase payload (punycode t) → s ≡ t
unfolding digits_of_text
one_text payload s t hs ht =
    let ps = payload_parts s in
    let pt = payload_parts t in
    let ms = IsMade-text s in
    let mt = IsMade-text t in
    let basic : basic_of s ≡ basic_of t = sym ps.0 ∙ sym hs.basic ∙ ht.basic ∙ pt.0 in
    let digits : digits_of_text s ≡ digits_of_text t = sym ps.1 ∙ sym hs.encoded ∙ ht.encoded ∙ pt.1 in
    let same : insertions s ≡ insertions t =
    one_list 128 0 72 (length (basic_of s)) (insertions s) (insertions t) (omega arith) ms.ordered
    (subst (λ b. InOrder 128 0 (length b) (insertions t)) (sym basic) mt.ordered)
    (digits ∙ ap (λ b. digits_written 128 0 72 (length b) (insertions t)) (sym basic)) in
    sym ms.makes ∙ ap₂ place_all basic same ∙ mt.makes
