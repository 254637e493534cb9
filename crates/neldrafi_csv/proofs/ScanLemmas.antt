-- Fields at the front of bytes.
use Rattle.std.proofs.Common.{◌≡◌, ◌≢◌, ◌≤◌, ◌<◌, ◌+◌, ◌-◌, ℕ, zero, suc, List, [], ◌∷◌, ◌++◌, take, drop, length, Bool, true, false, refl, sym, ap, subst, arith, ◌∙◌}
use Rattle.std.proofs.Common.{append_assoc, get_or, Option, Some, None, take-add, drop-drop, inl, inr}
use Rattle.std.specs.Prelude.{◌==◌, ◌||◌, slice_get, unwrap_or}
use Rattle.std.proofs.lemmas.Bool.{cases_lt, eqb-false, eqb-true}
use Rattle.std.proofs.lemmas.List.{append-nil, drop_all, get_or-drop, length-append, length-drop, length-take, length-take-le, take-append-drop, take-append-le, take_all, take_more, take_rest}
use Rattle.std.proofs.lemmas.Option.{get_or_from_slice_get, slice_get-get_or, slice_get_past, slice_get_within}
use Rattle.memchr.specs.Find.{IsFirstByte, is_byte}
use Rattle.neldrafi_csv.specs.declared.scan.Known.{Known}
use Rattle.neldrafi_csv.specs.declared.scan.Shape.{Shape}
use Rattle.neldrafi_csv.specs.declared.scan.Shape.TheVariants.{Doubled, Escaped, Misplaced, Text}
use Rattle.neldrafi_csv.specs.Grammar.{IsEscaped, IsField, IsText, IsUnended, ends_field, ends_text, quote}
use Rattle.neldrafi_csv.specs.machine.Scans.{Closes, EndsBefore, HasShape, IsFieldAt, IsInside, IsKnown, IsShaped, StaysOpen, inside_of}

-- ---- between quotes

pub escaped-append : (a b v w : List ℕ) → IsEscaped a v → IsEscaped b w → IsEscaped (a ++ b) (v ++ w)
escaped-append _ b _ w IsEscaped.nothing h = h
escaped-append _ b _ w (IsEscaped.byte c bytes value other more) h = IsEscaped.byte c (bytes ++ b) (value ++ w) other (escaped-append bytes b value w more h)
escaped-append _ b _ w (IsEscaped.pair bytes value more) h = IsEscaped.pair (bytes ++ b) (value ++ w) (escaped-append bytes b value w more h)

-- bytes without a quote have themselves as their value
pub escaped-run : (xs : List ℕ) (n : ℕ) → n ≤ length xs → ((k : ℕ) → k < n → get_or xs k 0 ≢ quote) → IsEscaped (take n xs) (take n xs)
escaped-run xs zero l h = IsEscaped.nothing
escaped-run [] (suc n) l h = absurd (omega (arith, l))
escaped-run (x ∷ xs) (suc n) l h = IsEscaped.byte x (take n xs) (take n xs) (h 0 (omega arith)) (escaped-run xs n (omega arith) (λ k a. h (suc k) (omega arith)))

-- the run before the first quote, or the whole if there is none
pub run-before_quote : (xs : List ℕ) (n : ℕ) → IsFirstByte (is_byte quote) xs (Some n) → IsEscaped (take n xs) (take n xs)
run-before_quote xs n h =
    let inside = h.0.high in
    escaped-run xs n (omega (arith, inside)) (λ k a e. h.0.before k (omega arith) a (rw e refl))

pub run-without_quote : (xs : List ℕ) → IsFirstByte (is_byte quote) xs None → IsEscaped xs xs
run-without_quote xs h =
    let all = escaped-run xs (length xs) (omega arith) (λ k a e. h k (omega arith) a (rw e refl)) in
    subst (λ l. IsEscaped l l) (take_all (length xs) xs (omega arith)) all

-- ---- the closing quote

shaped-run : (shape : Shape) (bytes value run : List ℕ) → IsShaped shape bytes value → IsShaped shape (bytes ++ run) (value ++ run)
shaped-run Text bytes value run h = h
shaped-run Escaped bytes value run h = ap (λ l. l ++ run) h
shaped-run Doubled bytes value run h = tt
shaped-run Misplaced bytes value run h = h

-- the first of the bytes from a place on that is a quote
module _ (inside value : List ℕ) (at n : ℕ) (shape : Shape) (escaped : IsEscaped (take at inside) value) (shaped : IsShaped shape (take at inside) value)
    (within : at ≤ length inside) (found : IsFirstByte (is_byte quote) (take (length inside - at) (drop at inside)) (Some n)) where
  found_in : IsFirstByte (is_byte quote) (drop at inside) (Some n)
  found_in = subst (λ l. IsFirstByte (is_byte quote) l (Some n)) (take_rest inside at) found

  pub quote-inside : at + n < length inside
  quote-inside = let high = found_in.0.high in omega (arith, high, length-drop at inside, within)

  pub quote-here : get_or inside (at + n) 0 ≡ quote
  quote-here = sym (get_or-drop at inside n 0) ∙ eqb-true _ quote found_in.1

  joined : take (at + n) inside ≡ take at inside ++ take n (drop at inside)
  joined = take-add at n inside

  pub run-escaped : IsEscaped (take (at + n) inside) (value ++ take n (drop at inside))
  run-escaped = subst (λ l. IsEscaped l (value ++ take n (drop at inside))) (sym joined)
      (escaped-append (take at inside) _ value _ escaped (run-before_quote (drop at inside) n found_in))

  pub run-shaped : IsShaped shape (take (at + n) inside) (value ++ take n (drop at inside))
  run-shaped = subst (λ l. IsShaped shape l (value ++ take n (drop at inside))) (sym joined) (shaped-run shape (take at inside) value _ shaped)

  pub closes-there : slice_get inside (at + n + 1) ≢ Some quote → Closes inside (at + n) shape
  closes-there single = record {
    value = value ++ take n (drop at inside);
    escaped = run-escaped;
    shaped = run-shaped;
    closes = slice_get-get_or inside (at + n) 0 quote-inside ∙ ap (λ c. Some c) quote-here;
    single = single;
  }

  pub pair-escaped : slice_get inside (at + n + 1) ≡ Some quote
      → IsEscaped (take (at + n + 2) inside) ((value ++ take n (drop at inside)) ++ (quote ∷ [])) × (at + n + 2 ≤ length inside)
  pair-escaped next =
      let inside_next = slice_get_within inside (at + n + 1) quote next in
      let here = get_or_from_slice_get inside (at + n + 1) quote 0 next in
      let first : take (at + n + 1) inside ≡ take (at + n) inside ++ (quote ∷ []) =
      take_more inside (at + n) 0 quote-inside ∙ ap (λ c. take (at + n) inside ++ (c ∷ [])) quote-here in
      let second : take (at + n + 1 + 1) inside ≡ take (at + n + 1) inside ++ (quote ∷ []) =
      take_more inside (at + n + 1) 0 inside_next ∙ ap (λ c. take (at + n + 1) inside ++ (c ∷ [])) here in
      let same : at + n + 1 + 1 ≡ at + n + 2 = omega arith in
      let both : take (at + n + 2) inside ≡ take (at + n) inside ++ (quote ∷ quote ∷ []) =
      ap (λ k. take k inside) (sym same) ∙ second ∙ ap (λ l. l ++ (quote ∷ [])) first ∙ append_assoc (take (at + n) inside) (quote ∷ []) (quote ∷ []) in (
        subst (λ l. IsEscaped l ((value ++ take n (drop at inside)) ++ (quote ∷ []))) (sym both)
            (escaped-append (take (at + n) inside) _ _ _ run-escaped (IsEscaped.pair [] [] IsEscaped.nothing)),
        omega (arith, inside_next),
      )

  pub pair-inside : slice_get inside (at + n + 1) ≡ Some quote → IsInside inside (record { count = at + n + 2; shape = Doubled })
  pair-inside next = let (more, far) = pair-escaped next in record { value = _; within = far; escaped = more; shaped = tt }

-- no quote is left
pub all-inside : (inside value : List ℕ) (at : ℕ) (shape : Shape) → IsEscaped (take at inside) value → IsShaped shape (take at inside) value
    → IsFirstByte (is_byte quote) (take (length inside - at) (drop at inside)) None → IsInside inside (record { count = length inside; shape = shape })
all-inside inside value at shape escaped shaped none =
    let left = run-without_quote (drop at inside) (subst (λ l. IsFirstByte (is_byte quote) l None) (take_rest inside at) none) in
    let whole = sym (take-append-drop at inside) in
    let all = take_all (length inside) inside (omega arith) in record {
      value = value ++ drop at inside;
      within = omega arith;
      escaped = subst (λ l. IsEscaped l (value ++ drop at inside)) (sym (all ∙ whole)) (escaped-append (take at inside) _ value _ escaped left);
      shaped = subst (λ l. IsShaped shape l (value ++ drop at inside)) (sym (all ∙ whole)) (shaped-run shape (take at inside) value _ shaped);
    }

-- nothing is known
pub nothing-inside : (inside : List ℕ) → IsInside inside (record { count = 0; shape = Escaped })
nothing-inside inside = record { value = []; within = omega arith; escaped = IsEscaped.nothing; shaped = refl }

-- what is known stays known when bytes are added
pub inside-grown : (inside more : List ℕ) (known : Known) → IsInside inside known → IsInside (inside ++ more) known
inside-grown inside more known h =
    let front = take-append-le known.count inside more h.within in
    let long = length-append inside more in record {
      value = h.value;
      within = omega (arith, long, h.within);
      escaped = subst (λ l. IsEscaped l h.value) (sym front) h.escaped;
      shaped = subst (λ l. IsShaped known.shape l h.value) (sym front) h.shaped;
    }

pub known-grown : (bytes more : List ℕ) (known : Known) → IsKnown bytes known → IsKnown (bytes ++ more) known
known-grown [] more known h =
    let none : known.count ≡ 0 = omega (arith, h.within) in
    let front : take known.count (drop 1 more) ≡ take known.count [] = ap (λ n. take n (drop 1 more)) none ∙ sym (ap (λ n. take {A = ℕ} n []) none) in record {
      value = h.value;
      within = omega (arith, none);
      escaped = subst (λ l. IsEscaped l h.value) (sym front) h.escaped;
      shaped = subst (λ l. IsShaped known.shape l h.value) (sym front) h.shaped;
    }
known-grown (b ∷ bytes) more known h = inside-grown bytes more known h

-- what precedes a closing quote is known
pub known-closed : (inside : List ℕ) (known : Known) → Closes inside known.count known.shape → IsInside inside known
known-closed inside known h =
    let here = slice_get_within inside known.count quote h.closes in
    record { value = h.value; within = omega (arith, here); escaped = h.escaped; shaped = h.shaped }

-- all bytes are in quotes
pub open-inside : (bytes inside : List ℕ) (known : Known) → bytes ≡ quote ∷ inside → IsInside inside known → known.count ≡ length inside → StaysOpen bytes
open-inside bytes inside known splits h all = record {
  inside = inside;
  value = h.value;
  splits = splits;
  escaped = subst (λ l. IsEscaped l h.value) (ap (λ n. take n inside) all ∙ take_all (length inside) inside (omega arith)) h.escaped;
}

-- ---- the value between quotes

-- the value begins with the bytes up to the first quote, and goes on behind the second
pub escaped-first : (xs value : List ℕ) (n : ℕ) → IsEscaped xs value → IsFirstByte (is_byte quote) xs (Some n)
    → (later : List ℕ) × (value ≡ take (n + 1) xs ++ later) × IsEscaped (drop (n + 2) xs) later
escaped-first xs value n escaped found = by xs value n escaped found.0.high (λ k a e. found.0.before k (omega arith) a (rw e refl)) (eqb-true _ quote found.1)
  where
    by : (xs value : List ℕ) (n : ℕ) → IsEscaped xs value → n < length xs → ((k : ℕ) → k < n → get_or xs k 0 ≢ quote) → get_or xs n 0 ≡ quote
        → (later : List ℕ) × (value ≡ take (n + 1) xs ++ later) × IsEscaped (drop (n + 2) xs) later
    by _ _ n IsEscaped.nothing high before here = absurd (omega (arith, high))
    by _ _ zero (IsEscaped.byte c bytes value other more) high before here = absurd (other here)
    by _ _ (suc n) (IsEscaped.byte c bytes value other more) high before here =
        let (later, is, left) = by bytes value n more (omega (arith, high)) (λ k a. before (suc k) (omega (arith, a))) here in
        let one : suc n + 1 ≡ suc (n + 1) = omega arith in
        let two : suc n + 2 ≡ suc (n + 2) = omega arith in (
          later,
          rw one (ap (λ l. c ∷ l) is),
          rw two left,
        )
    by _ _ zero (IsEscaped.pair bytes value more) high before here = (value, refl, more)
    by _ _ (suc n) (IsEscaped.pair bytes value more) high before here = absurd (before 0 (omega arith) refl)

-- a value without quotes is the bytes
pub escaped-all : (xs value : List ℕ) → IsEscaped xs value → IsFirstByte (is_byte quote) xs None → value ≡ xs
escaped-all xs value escaped none = by xs value escaped (λ k a e. none k (omega arith) a (rw e refl))
  where
    by : (xs value : List ℕ) → IsEscaped xs value → ((k : ℕ) → k < length xs → get_or xs k 0 ≢ quote) → value ≡ xs
    by _ _ IsEscaped.nothing h = refl
    by _ _ (IsEscaped.byte c bytes value other more) h = ap (λ l. c ∷ l) (by bytes value more (λ k a. h (suc k) (omega (arith, a))))
    by _ _ (IsEscaped.pair bytes value more) h = absurd (h 0 (omega arith) refl)

-- one quote more was appended, with what precedes it
module _ (inside before all out later : List ℕ) (at n : ℕ) (escaped : IsEscaped (drop at inside) later) (same : out ++ later ≡ before ++ all)
    (found : IsFirstByte (is_byte quote) (take (length inside - at) (drop at inside)) (Some n)) where
  pub value-more : (new : List ℕ) → new ≡ out ++ take (n + 1) (take (length inside - at) (drop at inside))
      → (left : List ℕ) × IsEscaped (drop (at + (n + 2)) inside) left × (new ++ left ≡ before ++ all)
  value-more new is =
      let (left, parts, next) = escaped-first (drop at inside) later n escaped (subst (λ l. IsFirstByte (is_byte quote) l (Some n)) (take_rest inside at) found) in
      let put : new ≡ out ++ take (n + 1) (drop at inside) = is ∙ ap (λ l. out ++ take (n + 1) l) (take_rest inside at) in (
        left,
        subst (λ l. IsEscaped l left) (drop-drop (n + 2) at inside) next,
        ap (λ l. l ++ left) put ∙ append_assoc out _ left ∙ ap (λ l. out ++ l) (sym parts) ∙ same,
      )

-- the rest was appended
pub value-rest : (inside before all out later : List ℕ) (at : ℕ) → IsEscaped (drop at inside) later → out ++ later ≡ before ++ all
    → IsFirstByte (is_byte quote) (take (length inside - at) (drop at inside)) None → (new : List ℕ) → new ≡ out ++ take (length inside - at) (drop at inside)
    → new ≡ before ++ all
value-rest inside before all out later at escaped same none new is =
    let rest = take_rest inside at in
    is ∙ ap (λ l. out ++ l) rest ∙ ap (λ l. out ++ l) (sym (escaped-all (drop at inside) later escaped (subst (λ l. IsFirstByte (is_byte quote) l None) rest none))) ∙ same

pub value-end : (inside before all out later : List ℕ) (at : ℕ) → IsEscaped (drop at inside) later → out ++ later ≡ before ++ all → length inside ≤ at
    → out ≡ before ++ all
value-end inside before all out later at escaped same past =
    let none : later ≡ [] = by (drop at inside) later escaped (drop_all at inside past) in sym (append-nil out) ∙ ap (λ l. out ++ l) (sym none) ∙ same
  where
    by : (xs value : List ℕ) → IsEscaped xs value → xs ≡ [] → value ≡ []
    by _ _ IsEscaped.nothing e = refl
    by _ _ (IsEscaped.byte c bytes value other more) e = cc e
    by _ _ (IsEscaped.pair bytes value more) e = cc e

-- ---- the end of a field

pub ends-last : (delimiter : ℕ) (bytes : List ℕ) (size : ℕ) (is_last : Bool) → length bytes ≤ size → is_last ≡ true → EndsBefore delimiter (slice_get bytes size) is_last
ends-last delimiter bytes size is_last past last = subst (λ o. EndsBefore delimiter o is_last) (sym (slice_get_past bytes size past)) last

pub ends-at : (delimiter : ℕ) (bytes : List ℕ) (size c : ℕ) (is_last : Bool) → slice_get bytes size ≡ Some c → ends_field delimiter c ≡ true
    → EndsBefore delimiter (slice_get bytes size) is_last
ends-at delimiter bytes size c is_last here ends = subst (λ o. EndsBefore delimiter o is_last) (sym here) ends

-- a field with a misplaced quote ends before the first byte that ends a field
pub misplaced-end : (delimiter : ℕ) (bytes : List ℕ) (from run : ℕ) (is_last : Bool) → from ≤ length bytes
    → ((behind : List ℕ) → IsUnended delimiter behind → IsField delimiter (take from bytes ++ behind) None)
    → run ≤ length (take (length bytes - from) (drop from bytes)) → IsUnended delimiter (take run (take (length bytes - from) (drop from bytes)))
    → (run < length (take (length bytes - from) (drop from bytes)) → ends_field delimiter (get_or (take (length bytes - from) (drop from bytes)) run 0) ≡ true)
    → (from + run ≡ length bytes → is_last ≡ true) → IsFieldAt delimiter bytes is_last Misplaced (from + run)
misplaced-end delimiter bytes from run is_last within misplaced short unended stops last =
    let rest = take_rest bytes from in
    let long = length-drop from bytes in
    let run_within : run ≤ length (drop from bytes) = subst (λ l. run ≤ length l) rest short in
    let inside : from + run ≤ length bytes = omega (arith, run_within, long, within) in record {
      within = inside;
      field = subst (λ l. IsField delimiter l None) (sym (take-add from run bytes)) (misplaced (take run (drop from bytes)) (subst (λ l. IsUnended delimiter (take run l)) rest unended));
      ends = elim (cases_lt (from + run) (length bytes)) [
        | inl low ↦ ends-at delimiter bytes (from + run) _ is_last (slice_get-get_or bytes (from + run) 0 low)
            (ap (λ c. ends_field delimiter c) (sym (get_or-drop from bytes run 0)) ∙ subst (λ l. run < length l → ends_field delimiter (get_or l run 0) ≡ true) rest stops (omega (arith, low, long)))
        | inr past ↦ ends-last delimiter bytes (from + run) is_last past (last (omega (arith, past, inside)))
      ];
    }

-- a byte that is no text and no quote ends a field
pub ends-no_quote : (delimiter c : ℕ) → ends_text delimiter c ≡ true → c ≢ quote → ends_field delimiter c ≡ true
ends-no_quote delimiter c ends other = by (c == quote) (ends_field delimiter c) refl ends
  where
    by : (b d : Bool) → c == quote ≡ b → (b || d) ≡ true → d ≡ true
    by true d is h = absurd (other (eqb-true c quote is))
    by false d is h = h

pub text-misplaced : (delimiter : ℕ) (bytes : List ℕ) (n : ℕ) → IsText delimiter (take n bytes) → slice_get bytes n ≡ Some quote → slice_get bytes 0 ≢ Some quote
    → (behind : List ℕ) → IsUnended delimiter behind → IsField delimiter (take (n + 1) bytes ++ behind) None
text-misplaced delimiter bytes zero text here first behind unended = absurd (first here)
text-misplaced delimiter [] (suc n) text here first behind unended = cc here
text-misplaced delimiter (b ∷ bytes) (suc n) text here first behind unended =
    let inside = slice_get_within (b ∷ bytes) (suc n) quote here in
    let front : take (suc n + 1) (b ∷ bytes) ≡ take (suc n) (b ∷ bytes) ++ (quote ∷ []) =
    take_more (b ∷ bytes) (suc n) 0 inside ∙ ap (λ c. take (suc n) (b ∷ bytes) ++ (c ∷ [])) (get_or_from_slice_get (b ∷ bytes) (suc n) quote 0 here) in
    let whole : take (suc n + 1) (b ∷ bytes) ++ behind ≡ take (suc n) (b ∷ bytes) ++ (quote ∷ behind) =
    ap (λ l. l ++ behind) front ∙ append_assoc (take (suc n) (b ∷ bytes)) (quote ∷ []) behind in
    subst (λ l. IsField delimiter l None) (sym whole) (IsField.behind_text b (take n bytes) behind text unended)

-- ---- an escaped field

module _ (delimiter : ℕ) (inside : List ℕ) (count : ℕ) (shape : Shape) (h : Closes inside count shape) where
  closing-inside : count < length inside
  closing-inside = slice_get_within inside count quote h.closes

  closed-front : take (count + 1) inside ≡ take count inside ++ (quote ∷ [])
  closed-front = take_more inside count 0 closing-inside ∙ ap (λ c. take count inside ++ (c ∷ [])) (get_or_from_slice_get inside count quote 0 h.closes)

  closed : take (count + 2) (quote ∷ inside) ≡ quote ∷ (take count inside ++ (quote ∷ []))
  closed = let two : count + 2 ≡ suc (count + 1) = omega arith in rw two (ap (λ l. quote ∷ l) closed-front)

  size-of_inside : length (take count inside) ≡ count
  size-of_inside = length-take-le count inside (omega (arith, closing-inside))

  pub closed-within : count + 2 ≤ length (quote ∷ inside)
  closed-within = omega (arith, closing-inside)

  inside-closed : inside_of (quote ∷ (take count inside ++ (quote ∷ []))) ≡ take count inside
  inside-closed =
      let size = length-append (take count inside) (quote ∷ []) in
      let less : length (quote ∷ (take count inside ++ (quote ∷ []))) - 2 ≡ length (take count inside) = omega (arith, size) in
      ap (λ n. take n (take count inside ++ (quote ∷ []))) less ∙ take-append-le (length (take count inside)) (take count inside) (quote ∷ []) (omega arith)
      ∙ take_all (length (take count inside)) (take count inside) (omega arith)

  long-enough : 2 ≤ length (quote ∷ (take count inside ++ (quote ∷ [])))
  long-enough = let size = length-append (take count inside) (quote ∷ []) in omega (arith, size)

  shape-by : (s : Shape) → IsShaped s (take count inside) h.value → HasShape delimiter (quote ∷ (take count inside ++ (quote ∷ []))) s
  shape-by Text other = absurd other
  shape-by Escaped same = (
    long-enough,
    subst (λ v. IsField delimiter (quote ∷ (take count inside ++ (quote ∷ []))) (Some v)) (same ∙ sym inside-closed) (IsField.escaped (take count inside) h.value h.escaped),
  )
  shape-by Doubled unit = (
    long-enough,
    h.value,
    subst (λ l. IsEscaped l h.value) (sym inside-closed) h.escaped,
    IsField.escaped (take count inside) h.value h.escaped,
  )
  shape-by Misplaced other = absurd other

  pub closed-shape : HasShape delimiter (take (count + 2) (quote ∷ inside)) shape
  closed-shape = subst (λ l. HasShape delimiter l shape) (sym closed) (shape-by shape h.shaped)

  pub closed-misplaced : (c : ℕ) → slice_get (quote ∷ inside) (count + 2) ≡ Some c → ends_field delimiter c ≡ false
      → (behind : List ℕ) → IsUnended delimiter behind → IsField delimiter (take (count + 2 + 1) (quote ∷ inside) ++ behind) None
  closed-misplaced c here more behind unended =
      let two : count + 2 ≡ suc (count + 1) = omega arith in
      let other : c ≢ quote = λ e. h.single (subst (λ n. slice_get (quote ∷ inside) n ≡ Some c) two here ∙ ap (λ d. Some d) e) in
      let within = slice_get_within (quote ∷ inside) (count + 2) c here in
      let front : take (count + 2 + 1) (quote ∷ inside) ≡ (quote ∷ (take count inside ++ (quote ∷ []))) ++ (c ∷ []) =
      take_more (quote ∷ inside) (count + 2) 0 within ∙ ap (λ d. take (count + 2) (quote ∷ inside) ++ (d ∷ [])) (get_or_from_slice_get (quote ∷ inside) (count + 2) c 0 here)
      ∙ ap (λ l. l ++ (c ∷ [])) closed in
      let whole : take (count + 2 + 1) (quote ∷ inside) ++ behind ≡ quote ∷ (take count inside ++ (quote ∷ (c ∷ behind))) =
      ap (λ l. l ++ behind) front ∙ ap (λ l. quote ∷ (l ++ behind)) (append_assoc (take count inside) (quote ∷ []) (c ∷ []))
      ∙ ap (λ l. quote ∷ l) (append_assoc (take count inside) (quote ∷ (c ∷ [])) behind) in
      subst (λ l. IsField delimiter l None) (sym whole) (IsField.before_text (take count inside) h.value c behind h.escaped other (more, unended))

-- bytes that begin with a quote
pub quote-first : (bytes : List ℕ) → slice_get bytes 0 ≡ Some quote → bytes ≡ quote ∷ take (length bytes - 1) (drop 1 bytes)
quote-first [] h = cc h
quote-first (b ∷ bytes) h = let same : b ≡ quote = cc in let one : length (b ∷ bytes) - 1 ≡ length bytes = omega arith in
    ap (λ c. c ∷ bytes) same ∙ ap (λ l. quote ∷ l) (sym (ap (λ n. take n bytes) one ∙ take_all (length bytes) bytes (omega arith)))

module _ (delimiter : ℕ) (bytes : List ℕ) (count : ℕ) (shape : Shape) (is_last : Bool) (first : slice_get bytes 0 ≡ Some quote)
    (h : Closes (take (length bytes - 1) (drop 1 bytes)) count shape) where
  pub escaped-field : EndsBefore delimiter (slice_get bytes (count + 2)) is_last → IsFieldAt delimiter bytes is_last shape (count + 2)
  escaped-field ends = record {
    within = subst (λ l. count + 2 ≤ length l) (sym (quote-first bytes first)) (closed-within delimiter (take (length bytes - 1) (drop 1 bytes)) count shape h);
    field = subst (λ l. HasShape delimiter (take (count + 2) l) shape) (sym (quote-first bytes first))
        (closed-shape delimiter (take (length bytes - 1) (drop 1 bytes)) count shape h);
    ends = ends;
  }

  pub escaped-misplaced : (c : ℕ) → slice_get bytes (count + 2) ≡ Some c → ends_field delimiter c ≡ false
      → (behind : List ℕ) → IsUnended delimiter behind → IsField delimiter (take (count + 2 + 1) bytes ++ behind) None
  escaped-misplaced c here more behind unended =
      subst (λ l. IsField delimiter (take (count + 2 + 1) l ++ behind) None) (sym (quote-first bytes first))
      (closed-misplaced delimiter (take (length bytes - 1) (drop 1 bytes)) count shape h c
      (subst (λ l. slice_get l (count + 2) ≡ Some c) (quote-first bytes first) here) more behind unended)

-- bytes past which there is none
pub past-none : (bytes : List ℕ) (size : ℕ) → slice_get bytes size ≡ None → length bytes ≤ size
past-none bytes size none = elim (cases_lt size (length bytes)) [
  | inl low ↦ let some = slice_get-get_or bytes size 0 low in cc (none, some)
  | inr past ↦ past
]
