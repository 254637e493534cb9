-- The fields of a record, as they are taken.
use Rattle.std.proofs.Common.{◌≡◌, ◌≢◌, ◌≤◌, ◌<◌, ◌+◌, ◌-◌, ℕ, zero, suc, List, [], ◌∷◌, ◌++◌, take, drop, length, map, Bool, true, false, refl, sym, ap, subst, arith, ◌∙◌}
use Rattle.std.proofs.Common.{append_assoc, get_or, Option, Some, None, take-add, take-take, drop-drop, inl, inr}
use Rattle.std.specs.Prelude.{◌==◌, ◌||◌, is_some, slice_get}
use Rattle.std.specs.List.{AllByRecursion, slice_range}
use Rattle.std.proofs.lemmas.Bool.{cases_lt, eqb-false, eqb-true}
use Rattle.std.proofs.lemmas.List.{append-nil, drop_all, drop-append-le, get_or-drop, length-append, length-drop, length-map, length-take, length-take-le, map-append, take-append-drop, take-append-le, take_all, take_more, take_rest}
use Rattle.std.proofs.lemmas.Option.{get_or_from_slice_get, slice_get-get_or, slice_get_past, slice_get_within}
use Rattle.neldrafi_csv.specs.declared.fields.Fields.{Fields}
use Rattle.neldrafi_csv.specs.declared.fields.Span.{Span}
use Rattle.neldrafi_csv.specs.declared.fields.Span.TheVariants as at
use Rattle.neldrafi_csv.specs.Grammar.{AreBefore, IsEscaped, IsField, IsRecord, ends_field, is_line_byte, quote}
use Rattle.neldrafi_csv.specs.Records.{EndsRecord, IsMisplaced}
use Rattle.neldrafi_csv.specs.declared.scan.Shape.TheVariants.{Doubled, Escaped}
use Rattle.neldrafi_csv.specs.machine.Scans.{EndsBefore, HasShape, IsKnown, StaysOpen, inside_of}
use Rattle.neldrafi_csv.specs.machine.Spans.{AreTaken, IsKept, IsSpan, IsWithin, TakesField, value_in, values_in}

-- ---- spans, as bytes are added

slice-grown : (xs ys : List ℕ) (from to : ℕ) → from ≤ to → to ≤ length xs → slice_range (xs ++ ys) from to ≡ slice_range xs from to
slice-grown xs ys from to ordered within =
    let long = length-drop from xs in
    ap (take (to - from)) (drop-append-le from xs ys (omega (arith, ordered, within))) ∙ take-append-le (to - from) (drop from xs) ys (omega (arith, long, ordered, within))

value-grown : (bytes more copied others : List ℕ) (size : ℕ) (span : Span) → IsWithin size (length copied) span → size ≤ length bytes
    → value_in (bytes ++ more) (copied ++ others) span ≡ value_in bytes copied span
value-grown bytes more copied others size (at.Text from to) within short =
    ap (λ l. Some l) (slice-grown bytes more from to within.0 (omega (arith, within.1, short)))
value-grown bytes more copied others size (at.Copied from to) within short = ap (λ l. Some l) (slice-grown copied others from to within.0 within.1)
value-grown bytes more copied others size at.Misplaced within short = refl

pub values-grown : (bytes more copied others : List ℕ) (size : ℕ) (spans : List Span) → AllByRecursion (IsWithin size (length copied)) spans → size ≤ length bytes
    → map (value_in (bytes ++ more) (copied ++ others)) spans ≡ map (value_in bytes copied) spans
values-grown bytes more copied others size [] within short = refl
values-grown bytes more copied others size (span ∷ spans) within short =
    let one = value-grown bytes more copied others size span within.0 short in
    let rest = values-grown bytes more copied others size spans within.1 short in cc

within-grown : (size larger copied longer : ℕ) (span : Span) → IsWithin size copied span → size ≤ larger → copied ≤ longer → IsWithin larger longer span
within-grown size larger copied longer (at.Text from to) within h k = (within.0, omega (arith, within.1, h))
within-grown size larger copied longer (at.Copied from to) within h k = (within.0, omega (arith, within.1, k))
within-grown size larger copied longer at.Misplaced within h k = tt

all_within-grown : (size larger copied longer : ℕ) (spans : List Span) → AllByRecursion (IsWithin size copied) spans → size ≤ larger → copied ≤ longer
    → AllByRecursion (IsWithin larger longer) spans
all_within-grown size larger copied longer [] within h k = tt
all_within-grown size larger copied longer (span ∷ spans) within h k =
    (within-grown size larger copied longer span within.0 h k, all_within-grown size larger copied longer spans within.1 h k)

all-one : (P : Span → Type 0) (spans : List Span) (span : Span) → AllByRecursion P spans → P span → AllByRecursion P (spans ++ (span ∷ []))
all-one P [] span h one = (one, tt)
all-one P (s ∷ spans) span h one = (h.0, all-one P spans span h.1 one)

-- ---- the first misplaced quote

pub misplaced-more : (values : List (Option (List ℕ))) (value : Option (List ℕ)) (first : ℕ) → IsMisplaced values (Some first)
    → IsMisplaced (values ++ (value ∷ [])) (Some first)
misplaced-more values value first (whole, others, splits, counts) =
    (whole, others ++ (value ∷ []), ap (λ l. l ++ (value ∷ [])) splits ∙ append_assoc (map (λ v. Some v) whole) (None ∷ others) (value ∷ []), counts)

pub misplaced-none : (values : List (Option (List ℕ))) (value : List ℕ) → IsMisplaced values None → IsMisplaced (values ++ (Some value ∷ [])) None
misplaced-none values value (whole, is) = (whole ++ (value ∷ []), ap (λ l. l ++ (Some value ∷ [])) is ∙ sym (map-append (λ v. Some v) whole (value ∷ [])))

pub misplaced-first : (values : List (Option (List ℕ))) (number : ℕ) → IsMisplaced values None → number ≡ length values + 1
    → IsMisplaced (values ++ (None ∷ [])) (Some number)
misplaced-first values number (whole, is) counts =
    (whole, [], ap (λ l. l ++ (None ∷ [])) is, counts ∙ ap (λ l. length l + 1) is ∙ ap (λ n. n + 1) (length-map whole (λ v. Some v)))

-- ---- the span of a field

-- the bytes between the quotes of a field of bytes
pub inside-slice : (bytes : List ℕ) (start size : ℕ) → start + size ≤ length bytes → 2 ≤ length (take size (drop start bytes))
    → inside_of (take size (drop start bytes)) ≡ slice_range bytes (start + 1) (start + size - 1)
inside-slice bytes start size within two =
    let long = length-drop start bytes in
    let is : length (take size (drop start bytes)) ≡ size = length-take-le size (drop start bytes) (omega (arith, long, within)) in
    let count : length (take size (drop start bytes)) - 2 ≡ start + size - 1 - (start + 1) = omega (arith, is, two) in
    ap (λ n. take n (drop 1 (take size (drop start bytes)))) count
    ∙ take-drop_take (start + size - 1 - (start + 1)) size (drop start bytes) (omega (arith, is, two))
    ∙ ap (take (start + size - 1 - (start + 1))) (drop-drop 1 start bytes)
  where
    take-drop_take : (n m : ℕ) (xs : List ℕ) → n + 1 ≤ m → take n (drop 1 (take m xs)) ≡ take n (drop 1 xs)
    take-drop_take n zero xs h = absurd (omega (arith, h))
    take-drop_take n (suc m) [] h = refl
    take-drop_take n (suc m) (x ∷ xs) h = take-take n m xs (omega (arith, h))

pub copied-slice : (copied value : List ℕ) → slice_range (copied ++ value) (length copied) (length (copied ++ value)) ≡ value
copied-slice copied value =
    let size = length-append copied value in
    let less : length (copied ++ value) - length copied ≡ length value = omega (arith, size) in
    ap (λ n. take n (drop (length copied) (copied ++ value))) less
    ∙ ap (take (length value)) (drop-append-le (length copied) copied value (omega arith) ∙ ap (λ l. l ++ value) (drop_all (length copied) copied (omega arith)))
    ∙ take_all (length value) value (omega arith)

-- ---- one more field

module _ (delimiter : ℕ) (bytes : List ℕ) (old mid new : Fields) (size : ℕ) (span : Span) (kept : IsKept bytes old) (within : old.start + size ≤ length bytes)
    (at_span : IsSpan delimiter bytes old mid size span) where
  pub takes-one : new.spans.items ≡ old.spans.items ++ (span ∷ []) → new.copied ≡ mid.copied → new.start ≡ old.start + size
      → IsMisplaced (values_in bytes old ++ (value_in bytes mid.copied.items span ∷ [])) new.misplaced
      → ((others : List ℕ) → IsKnown others new.known) → TakesField delimiter bytes old new size
  takes-one spans copied start misplaced known =
      let same : values_in bytes new ≡ values_in bytes old ++ (value_in bytes mid.copied.items span ∷ []) =
      ap (λ l. map (value_in bytes l.items) new.spans.items) copied ∙ ap (map (value_in bytes mid.copied.items)) spans
      ∙ map-append (value_in bytes mid.copied.items) old.spans.items (span ∷ [])
      ∙ ap (λ l. l ++ (value_in bytes mid.copied.items span ∷ []))
      (ap (λ b. map (value_in b mid.copied.items) old.spans.items) (sym (append-nil bytes)) ∙ ap (λ b. map (value_in (bytes ++ []) b) old.spans.items) at_span.grown
      ∙ values-grown bytes [] old.copied.items at_span.copied old.start old.spans.items kept.spans kept.within) in
      let size_of = ap length at_span.grown ∙ length-append old.copied.items at_span.copied in record {
        value = value_in bytes mid.copied.items span;
        start = start;
        kept = record {
          within = rw start within;
          spans = rw (start, spans, copied) (all-one (IsWithin (old.start + size) (length mid.copied.items)) old.spans.items span
              (all_within-grown old.start (old.start + size) (length old.copied.items) (length mid.copied.items) old.spans.items kept.spans (omega arith) (omega (arith, size_of)))
              at_span.within);
          misplaced = rw same misplaced;
        };
        reads = rw at_span.is at_span.reads;
        values = same;
        known = known;
      }

-- ---- fields before another, and records

pub before-more : (delimiter : ℕ) (before last : List ℕ) (values : List (Option (List ℕ))) (value : Option (List ℕ)) → AreBefore delimiter before values
    → IsField delimiter last value → AreBefore delimiter (before ++ (last ++ (delimiter ∷ []))) (values ++ (value ∷ []))
unfolding AreBefore
before-more delimiter before last [] value none field = (last, [], ap (λ l. l ++ (last ++ (delimiter ∷ []))) none, field, refl)
before-more delimiter before last (v ∷ values) value (first, rest, splits, is, more) field = (
  first,
  rest ++ (last ++ (delimiter ∷ [])),
  ap (λ l. l ++ (last ++ (delimiter ∷ []))) splits ∙ append_assoc first (delimiter ∷ rest) (last ++ (delimiter ∷ [])),
  is,
  before-more delimiter rest last values value more field,
)

pub before-last : (delimiter : ℕ) (before last : List ℕ) (values : List (Option (List ℕ))) (value : Option (List ℕ)) → AreBefore delimiter before values
    → IsField delimiter last value → IsRecord delimiter (before ++ last) (values ++ (value ∷ []))
unfolding AreBefore IsRecord
before-last delimiter before last [] value none field = subst (λ l. IsField delimiter (l ++ last) value) (sym none) field
before-last delimiter before last (v ∷ []) value (first, rest, splits, is, more) field = (
  first,
  rest ++ last,
  ap (λ l. l ++ last) splits ∙ append_assoc first (delimiter ∷ rest) last,
  is,
  before-last delimiter rest last [] value more field,
)
before-last delimiter before last (v ∷ w ∷ values) value (first, rest, splits, is, more) field = (
  first,
  rest ++ last,
  ap (λ l. l ++ last) splits ∙ append_assoc first (delimiter ∷ rest) last,
  is,
  before-last delimiter rest last (w ∷ values) value more field,
)

pub value-some : (bytes copied : List ℕ) (span : Span) → span ≢ at.Misplaced → (value : List ℕ) × (value_in bytes copied span ≡ Some value)
value-some bytes copied (at.Text from to) other = (_, refl)
value-some bytes copied (at.Copied from to) other = (_, refl)
value-some bytes copied at.Misplaced other = absurd (other refl)

pub misplaced-kept : (values : List (Option (List ℕ))) (value : Option (List ℕ)) (before : Option ℕ) → is_some before ≡ true → IsMisplaced values before
    → IsMisplaced (values ++ (value ∷ [])) before
misplaced-kept values value None some h = cc some
misplaced-kept values value (Some first) some h = misplaced-more values value first h

pub no_first : (before : Option ℕ) → is_some before ≡ false → before ≡ None
no_first None h = refl
no_first (Some n) h = cc h

-- no field was taken
pub none-taken : (delimiter : ℕ) (bytes : List ℕ) (fields : Fields) → fields.spans.items ≡ [] → fields.start ≡ 0 → fields.misplaced ≡ None
    → ((others : List ℕ) → IsKnown others fields.known) → AreTaken delimiter bytes fields
unfolding AreBefore
none-taken delimiter bytes fields spans start first known =
    let none : values_in bytes fields ≡ [] = ap (map (value_in bytes fields.copied.items)) spans in (
      record {
        within = omega (arith, start);
        spans = subst (λ l. AllByRecursion (IsWithin fields.start (length fields.copied.items)) l) (sym spans) tt;
        misplaced = subst (λ o. IsMisplaced (values_in bytes fields) o) (sym first) ([], none);
      },
      subst (λ l. AreBefore delimiter (take fields.start bytes) l) (sym none) (ap (λ n. take n bytes) start),
      known (drop fields.start bytes),
    )

module _ (bytes copied : List ℕ) (values : List (Option (List ℕ))) where
  pub misplaced-not : (before : Option ℕ) (span : Span) → is_some before ≡ false → span ≢ at.Misplaced → IsMisplaced values before
      → IsMisplaced (values ++ (value_in bytes copied span ∷ [])) None
  misplaced-not before span none other h =
      let (value, is) = value-some bytes copied span other in
      subst (λ v. IsMisplaced (values ++ (v ∷ [])) None) (sym is) (misplaced-none values value (subst (λ o. IsMisplaced values o) (no_first before none) h))

-- ---- the spans of escaped fields

pub escaped-span : (delimiter : ℕ) (bytes : List ℕ) (old : Fields) (size : ℕ) → old.start + size ≤ length bytes
    → HasShape delimiter (take size (drop old.start bytes)) Escaped → IsSpan delimiter bytes old old size (at.Text (old.start + 1) (old.start + size - 1))
escaped-span delimiter bytes old size within (two, field) =
    let is = length-take-le size (drop old.start bytes) (omega (arith, length-drop old.start bytes, within)) in record {
      value = Some (inside_of (take size (drop old.start bytes)));
      reads = field;
      is = ap (λ l. Some l) (sym (inside-slice bytes old.start size within two));
      within = (omega (arith, two, is), omega arith);
      copied = [];
      grown = sym (append-nil old.copied.items);
      misplaced = λ none. cc none;
    }

pub doubled-span : (delimiter : ℕ) (bytes : List ℕ) (old new : Fields) (size from to : ℕ) → old.start + size ≤ length bytes
    → HasShape delimiter (take size (drop old.start bytes)) Doubled
    → ((value : List ℕ) → IsEscaped (slice_range bytes (old.start + 1) (old.start + size - 1)) value → new.copied.items ≡ old.copied.items ++ value)
    → from ≡ length old.copied.items → to ≡ length new.copied.items → IsSpan delimiter bytes old new size (at.Copied from to)
doubled-span delimiter bytes old new size from to within (two, value, escaped, field) pushed begins ends =
    let grown = pushed value (subst (λ l. IsEscaped l value) (inside-slice bytes old.start size within two) escaped) in
    let longer = ap length grown ∙ length-append old.copied.items value in record {
      value = Some value;
      reads = field;
      is = ap (λ l. Some l) (ap (λ n. slice_range new.copied.items n to) begins ∙ ap (λ n. slice_range new.copied.items (length old.copied.items) n) ends
          ∙ ap (λ l. slice_range l (length old.copied.items) (length l)) grown ∙ copied-slice old.copied.items value);
      within = (omega (arith, begins, ends, longer), omega (arith, ends));
      copied = value;
      grown = grown;
      misplaced = λ none. cc none;
    }

-- the number of the field behind those that were taken
pub counted : (bytes : List ℕ) (old : Fields) (span : Span) (spans : List Span) (number : ℕ) → number ≡ length spans → spans ≡ old.spans.items ++ (span ∷ [])
    → number ≡ length (values_in bytes old) + 1
counted bytes old span spans number long is =
    let all = long ∙ ap length is ∙ length-append old.spans.items (span ∷ []) in
    let same = length-map old.spans.items (value_in bytes old.copied.items) in omega (arith, all, same)

-- ---- a record

slice_get-drop : (n : ℕ) (xs : List ℕ) (k : ℕ) → slice_get (drop n xs) k ≡ slice_get xs (n + k)
slice_get-drop zero xs k = let same : k ≡ zero + k = omega arith in ap (slice_get xs) same
slice_get-drop (suc n) [] k = refl
slice_get-drop (suc n) (x ∷ xs) k = let same : suc (n + k) ≡ suc n + k = omega arith in slice_get-drop n xs k ∙ ap (slice_get (x ∷ xs)) same

first-drop : (n : ℕ) (xs : List ℕ) → slice_get (drop n xs) 0 ≡ slice_get xs n
first-drop n xs = let same : n + 0 ≡ n = omega arith in slice_get-drop n xs 0 ∙ ap (slice_get xs) same

-- a byte that ends a field and is no delimiter ends a line
line-ends-at : (delimiter c : ℕ) → ends_field delimiter c ≡ true → c ≢ delimiter → is_line_byte c ≡ true
line-ends-at delimiter c ends other = by (c == delimiter) (is_line_byte c) refl ends
  where
    by : (b d : Bool) → c == delimiter ≡ b → (b || d) ≡ true → d ≡ true
    by true d is h = absurd (other (eqb-true c delimiter is))
    by false d is h = h

-- the bytes behind a field that was taken
module _ (delimiter : ℕ) (bytes : List ℕ) (old new : Fields) (size : ℕ) (is_last : Bool) (taken : AreTaken delimiter bytes old)
    (more : TakesField delimiter bytes old new size) where
  both : take new.start bytes ≡ take old.start bytes ++ take size (drop old.start bytes)
  both = ap (λ n. take n bytes) more.start ∙ take-add old.start size bytes

  -- the record ends
  pub record-taken : (o : Option ℕ) → o ≡ slice_get bytes new.start → o ≢ Some delimiter
      → EndsBefore delimiter (slice_get (drop old.start bytes) size) is_last
      → IsKept bytes new × IsRecord delimiter (take new.start bytes) (values_in bytes new)
      × ((rest : List ℕ) → (is_last ≡ true → rest ≡ []) → EndsRecord (drop new.start bytes ++ rest))
  record-taken o here other ends = (
    more.kept,
    subst (λ l. IsRecord delimiter l (values_in bytes new)) (sym both)
        (subst (IsRecord delimiter (take old.start bytes ++ take size (drop old.start bytes))) (sym more.values)
        (before-last delimiter (take old.start bytes) (take size (drop old.start bytes)) (values_in bytes old) more.value taken.1 more.reads)),
    λ rest last. ends-record (drop new.start bytes) rest
        (subst (λ p. EndsBefore delimiter p is_last) (slice_get-drop old.start bytes size ∙ ap (slice_get bytes) (sym more.start) ∙ sym (first-drop new.start bytes)) ends)
        (λ e. other (here ∙ sym (first-drop new.start bytes) ∙ e)) last,
  )
    where
      ends-record : (xs rest : List ℕ) → EndsBefore delimiter (slice_get xs 0) is_last → slice_get xs 0 ≢ Some delimiter → (is_last ≡ true → rest ≡ [])
          → EndsRecord (xs ++ rest)
      ends-record [] rest ends other last = subst EndsRecord (sym (last ends)) tt
      ends-record (x ∷ xs) rest ends other last = line-ends-at delimiter x ends (λ e. other (ap (λ n. Some n) e))

  -- a delimiter follows
  pub delimiter-taken : (next : Fields) → slice_get bytes new.start ≡ Some delimiter → next.spans ≡ new.spans → next.copied ≡ new.copied
      → next.misplaced ≡ new.misplaced → next.known ≡ new.known → next.start ≡ new.start + 1 → AreTaken delimiter bytes next
  delimiter-taken next here spans copied first known start =
      let inside = slice_get_within bytes new.start delimiter here in
      let same : values_in bytes next ≡ values_in bytes new = ap (λ v. map (value_in bytes next.copied.items) v.items) spans
      ∙ ap (λ v. map (value_in bytes v.items) new.spans.items) copied in
      let front : take next.start bytes ≡ take old.start bytes ++ (take size (drop old.start bytes) ++ (delimiter ∷ [])) =
      ap (λ n. take n bytes) start ∙ take_more bytes new.start 0 inside
      ∙ ap (λ c. take new.start bytes ++ (c ∷ [])) (get_or_from_slice_get bytes new.start delimiter 0 here)
      ∙ ap (λ l. l ++ (delimiter ∷ [])) both ∙ append_assoc (take old.start bytes) (take size (drop old.start bytes)) (delimiter ∷ []) in (
        record {
          within = omega (arith, start, inside);
          spans = subst (λ v. AllByRecursion (IsWithin next.start (length next.copied.items)) v.items) (sym spans)
              (all_within-grown new.start next.start (length new.copied.items) (length next.copied.items) new.spans.items more.kept.spans (omega (arith, start))
              (omega (arith, ap (λ v. length v.items) copied)));
          misplaced = subst (λ l. IsMisplaced l next.misplaced) (sym same) (subst (λ o. IsMisplaced (values_in bytes new) o) (sym first) more.kept.misplaced);
        },
        subst (λ l. AreBefore delimiter l (values_in bytes next)) (sym front)
            (subst (AreBefore delimiter (take old.start bytes ++ (take size (drop old.start bytes) ++ (delimiter ∷ [])))) (sym (same ∙ more.values))
            (before-more delimiter (take old.start bytes) (take size (drop old.start bytes)) (values_in bytes old) more.value taken.1 more.reads)),
        subst (IsKnown (drop next.start bytes)) (sym known) (more.known (drop next.start bytes)),
      )
