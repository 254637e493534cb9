-- On the interval of a schema object, and on objects that fold to false.
use Rattle.std.proofs.Common.{◌≡◌, ◌≤◌, ◌↔◌, ℕ, List, [], ◌∷◌, length, Bool, true, false, Option, Some, None, IfSome, MatchOption, refl, sym, ap, subst, ◌∙◌}
use Rattle.std.proofs.Common.{inl, inr, arith, if◌then◌else◌, option_and_then}
use Rattle.std.specs.Prelude.{unwrap_or}
use Rattle.std.specs.Str.{chars}
use Rattle.serde_json.specs.Data.{Data, Members, string}
use Rattle.serde_json.specs.Find.{as_str}
use Rattle.strkw_keywords.specs.declared.keyword.Keyword.TheVariants.{ContentMediaType, ContentEncoding, ContentSchema, Format, MinLength, MaxLength, Pattern}
use Rattle.strkw_formats.specs.declared.builtin.BuiltinFormat.{BuiltinFormat}
use Rattle.strkw_keywords.specs.Meanings.{Choice}
use Rattle.strkw_formats.specs.Formats.{Window}
use Rattle.strkw_formats.specs.FormatLaws.{IsInside}
use Rattle.strkw_keywords.specs.Demands.{at_least, at_most}
use Rattle.strkw_keywords.specs.Object.{Settings, Entry, nothing, malformed, gives, of_string, of_text, known_format, checks_formats, checked_format}
use Rattle.strkw_keywords.specs.Object.{limit_entry, as_limit, min_entry, max_entry, no_string, format_entry, IsEntryAt, entry_of, value_at, Keyed, keywords}
use Rattle.strkw_keywords.specs.Object.{AreEntriesOf, demands_by, all_demands, all_assertions}
use Rattle.strkw_keywords.specs.Lengths.{any_length, common, window_at, interval, OutsideIsAnError}
use Rattle.strkw_keywords.specs.Folding.{IsInInterval, IntervalIsLeft, FoldedRefuseTexts, OthersAcceptSomeText}
use Rattle.strkw_keywords.proofs.Shapes.{HoldsOfBoundless, media_type_at_holds, encoding_at_holds, schema_at_holds, pattern_at_holds, unknown_format_holds}
use Rattle.strkw_keywords.proofs.Shapes.{noted_format_holds}
use Rattle.strkw_keywords.proofs.Asserted.{demands_of_placed}
use Rattle.strkw_keywords.proofs.Intervals.{inside_any, inside_common, common_any, any_common, interval_append, empty_or_least, below_is_empty}
use Rattle.strkw_keywords.proofs.Intervals.{inside_is_no_error, text_of_length}

-- the lengths that an entry leaves
abbrev left_by : Entry → Window
left_by e = interval (demands_by e)

-- the entry bounds no length
abbrev LeavesAny : Entry → Type 0
LeavesAny e = left_by e ≡ any_length

-- ---- content and patterns bound no length

-- nothing, refusals, notes and demands that bound no length leave every length
boundless_any : (s : Settings) → HoldsOfBoundless s LeavesAny
boundless_any s = record {
  of_nothing = refl;
  of_refusal = λ key why prints. refl;
  of_note = λ d whole. refl;
  of_demand = λ d boundless keeps. ap (λ w. common w any_length) boundless;
}

-- ---- limits and formats leave the lengths inside them

-- the entry of a least limit leaves exactly the lengths no less, or all without a limit
limit_is_least : (o : Option ℕ) (n : ℕ) → IsInside (left_by (limit_entry at_least MinLength o)) n ↔ IfSome o (λ least. least ≤ n)
limit_is_least None n = ((λ i. tt), (λ t. inside_any n))
limit_is_least (Some l) n = (
  (λ i. omega (arith, i.long_enough)),
  (λ h. record { long_enough = omega (arith, h); short_enough = tt }),
)

-- the entry at `minLength` leaves exactly the lengths no less than its limit, or all without one
min_left : (o : Option Data) (n : ℕ) → IsInside (left_by (entry_of min_entry o)) n ↔ IfSome (option_and_then as_limit o) (λ least. least ≤ n)
min_left None n = ((λ i. tt), (λ t. inside_any n))
min_left (Some d) n = limit_is_least (as_limit d) n

-- the entry of a greatest limit leaves exactly the lengths no more, or all without a limit
limit_is_greatest : (o : Option ℕ) (n : ℕ) → IsInside (left_by (limit_entry at_most MaxLength o)) n ↔ IfSome o (λ greatest. n ≤ greatest)
limit_is_greatest None n = ((λ i. tt), (λ t. inside_any n))
limit_is_greatest (Some l) n = ((λ i. i.short_enough), (λ h. record { long_enough = omega arith; short_enough = h }))

-- the entry at `maxLength` leaves exactly the lengths no more than its limit, or all without one
max_left : (o : Option Data) (n : ℕ) → IsInside (left_by (entry_of max_entry o)) n ↔ IfSome (option_and_then as_limit o) (λ greatest. n ≤ greatest)
max_left None n = ((λ i. tt), (λ t. inside_any n))
max_left (Some d) n = limit_is_greatest (as_limit d) n

-- the entry leaves the length exactly where the window of the format, if any, has it inside
abbrev IsLeft : Entry → Option (Choice BuiltinFormat) → ℕ → Type 0
IsLeft e f n = IsInside (left_by e) n ↔ IfSome (option_and_then window_at f) (λ w. IsInside w n)

-- without a format, an entry that bounds no length leaves each length
any_is_left : (e : Entry) (n : ℕ) → LeavesAny e → IsLeft e None n
any_is_left e n h = ((λ i. tt), (λ t. subst (λ w. IsInside w n) (sym h) (inside_any n)))

-- a window that may be missing leaves exactly the lengths inside it, or all where it is missing
window_is_left : (o : Option Window) (n : ℕ) → IsInside (common (unwrap_or o any_length) any_length) n ↔ IfSome o (λ w. IsInside w n)
window_is_left None n = ((λ i. tt), (λ t. inside_any n))
window_is_left (Some w) n = ((λ i. subst (λ v. IsInside v n) (common_any w) i), (λ i. subst (λ v. IsInside v n) (sym (common_any w)) i))

-- ---- formats

module _ (s : Settings) where
  -- a checked format leaves exactly the lengths inside its window, if it is known and has one
  checked_is_left : (name : List ℕ) (o : Option (Choice BuiltinFormat)) (n : ℕ) → IsLeft (checked_format s name o) o n
  checked_is_left name None n =
      any_is_left (checked_format s name None) n (unknown_format_holds s LeavesAny (boundless_any s) name)
  checked_is_left name (Some f) n = window_is_left (window_at f) n

  -- so does a value at `format`, by the name that it is, if it is a string
  named_is_left : (d : Data) (o : Option (List ℕ)) (n : ℕ)
      → IsLeft (of_string (λ name. checked_format s name (known_format s name)) Format d o) (option_and_then (known_format s) o) n
  named_is_left d None n = any_is_left (malformed Format (no_string d)) n refl
  named_is_left d (Some name) n = checked_is_left name (known_format s name) n

  -- whether formats are checked or not
  either_format : (checks : Bool) (o : Option Data) (n : ℕ)
      → IsLeft (entry_of (λ d. of_text (λ name. if checks then checked_format s name (known_format s name) else gives [] (Some (string name))) Format d) o)
      (if checks then option_and_then (known_format s) (option_and_then as_str o) else None) n
  either_format true None n = any_is_left nothing n refl
  either_format true (Some d) n = named_is_left d (as_str d) n
  either_format false None n = any_is_left nothing n refl
  either_format false (Some d) n = any_is_left (of_text (λ name. gives [] (Some (string name))) Format d) n
      (noted_format_holds s LeavesAny (boundless_any s) d)

-- ---- the object

-- what entries leave, one after the other
abbrev all_left : List Keyed → Window
all_left [] = any_length
all_left (e ∷ others) = common (left_by e.entry) (all_left others)

-- the interval of what entries demand is what they leave, one after the other
interval_by_entry : (es : List Keyed) → interval (all_demands es) ≡ all_left es
interval_by_entry [] = refl
interval_by_entry (e ∷ others) = interval_append (demands_by e.entry) (all_demands others) ∙ ap (common (left_by e.entry)) (interval_by_entry others)

-- every length in front of a window bounds nothing
without_first : (a w : Window) → a ≡ any_length → common a w ≡ w
without_first a w e = ap (λ x. common x w) e ∙ any_common w

-- nor does it behind one
without_last : (w a : Window) → a ≡ any_length → common w (common a any_length) ≡ w
without_last w a e = ap (common w) (without_first a any_length e) ∙ common_any w

-- three windows, among others that bound nothing
three_left : (a b c u v w d : Window) → a ≡ any_length → b ≡ any_length → c ≡ any_length → d ≡ any_length
    → common a (common b (common c (common u (common v (common w (common d any_length)))))) ≡ common u (common v w)
three_left a b c u v w d e f g h =
    without_first a _ e ∙ without_first b _ f ∙ without_first c _ g ∙ ap (λ x. common u (common v x)) (without_last w d h)

-- one entry for each keyword
abbrev seven : Entry → Entry → Entry → Entry → Entry → Entry → Entry → List Keyed
seven a b c f low high p =
    record { keyword = ContentMediaType; entry = a } ∷ record { keyword = ContentEncoding; entry = b } ∷ record { keyword = ContentSchema; entry = c }
    ∷ record { keyword = Format; entry = f }
    ∷ record { keyword = MinLength; entry = low } ∷ record { keyword = MaxLength; entry = high } ∷ record { keyword = Pattern; entry = p } ∷ []

-- an entry that its value determines is what `entry_of` gives
by_value : (of : Data → Entry) (o : Option Data) (e : Entry) → MatchOption o (e ≡ nothing) (λ d. e ≡ of d) → e ≡ entry_of of o
by_value of None e h = h
by_value of (Some d) e h = h

-- a length is in the interval exactly where the entries of the three keywords leave it
module _ (s : Settings) (ms : Members) where
  -- the interval of all entries is what those at `format`, `minLength` and `maxLength` leave in common
  three_of_seven : (a b c f low high p : Entry) → IsEntryAt s ms ContentMediaType a → IsEntryAt s ms ContentEncoding b → IsEntryAt s ms ContentSchema c
      → IsEntryAt s ms Pattern p
      → interval (all_demands (seven a b c f low high p)) ≡ common (left_by f) (common (left_by low) (left_by high))
  three_of_seven a b c f low high p at-a at-b at-c at-p =
      interval_by_entry (seven a b c f low high p)
      ∙ three_left _ _ _ (left_by f) (left_by low) (left_by high) _
      (media_type_at_holds s LeavesAny (boundless_any s) ms a at-a)
      (encoding_at_holds s LeavesAny (boundless_any s) ms b at-b)
      (schema_at_holds s LeavesAny (boundless_any s) ms c at-c)
      (pattern_at_holds s LeavesAny (boundless_any s) ms p at-p)

  -- the same, by the three values
  -- the lengths that the value at `format` leaves
  abbrev format_left : Window
  format_left = left_by (entry_of (format_entry s) (value_at s.options Format ms))

  -- the lengths that the value at `minLength` leaves
  abbrev least_left : Window
  least_left = left_by (entry_of min_entry (value_at s.options MinLength ms))

  -- the lengths that the value at `maxLength` leaves
  abbrev greatest_left : Window
  greatest_left = left_by (entry_of max_entry (value_at s.options MaxLength ms))

  -- a length is inside what the three values leave exactly where it is in the object's interval
  inside_values : (n : ℕ) → IsInside (common format_left (common least_left greatest_left)) n ↔ IsInInterval s ms n
  inside_values n =
      let outer = inside_common format_left (common least_left greatest_left) n in
      let inner = inside_common least_left greatest_left n in
      let by_format = either_format s (checks_formats s.options s.draft) (value_at s.options Format ms) n in
      let by_least = min_left (value_at s.options MinLength ms) n in
      let by_greatest = max_left (value_at s.options MaxLength ms) n in (
        (λ i.
            let parts = outer.0 i in
            let limits = inner.0 parts.1 in
            record { long_enough = by_least.0 limits.0; short_enough = by_greatest.0 limits.1; in_window = by_format.0 parts.0 }),
        (λ h. outer.1 (by_format.1 h.in_window, inner.1 (by_least.1 h.long_enough, by_greatest.1 h.short_enough))),
      )

  -- the same of what the entries at the three keywords leave
  inside_three : (f low high : Entry) (n : ℕ) → IsEntryAt s ms Format f → IsEntryAt s ms MinLength low → IsEntryAt s ms MaxLength high
      → IsInside (common (left_by f) (common (left_by low) (left_by high))) n ↔ IsInInterval s ms n
  inside_three f low high n at-f at-low at-high =
      let format-is = by_value (format_entry s) (value_at s.options Format ms) f at-f in
      let low-is = by_value min_entry (value_at s.options MinLength ms) low at-low in
      let high-is = by_value max_entry (value_at s.options MaxLength ms) high at-high in
      rw (format-is, low-is, high-is) (inside_values n)

  -- a length is inside the interval of all entries exactly where it is in that of the object
  inside_all : (es : List Keyed) (n : ℕ) → AreEntriesOf s ms keywords es → IsInside (interval (all_demands es)) n ↔ IsInInterval s ms n
  inside_all es n (
    a,
    r1,
    at-a,
    is-a,
    (
      b,
      r2,
      at-b,
      is-b,
      (
        c,
        r3,
        at-c,
        is-c,
        (f, r4, at-f, is-f, (low, r5, at-low, is-low, (high, r6, at-high, is-high, (p, r7, at-p, is-p, none)))),
      ),
    ),
  ) =
      let whole : es ≡ seven a b c f low high p = rw (is-a, is-b, is-c, is-f, is-low, is-high, is-p, none) refl in
      let left = ap (λ l. interval (all_demands l)) whole ∙ three_of_seven a b c f low high p at-a at-b at-c at-p in
      subst (λ w. IsInside w n ↔ IsInInterval s ms n) (sym left) (inside_three f low high n at-f at-low at-high)

-- the interval of a schema object is what its entries, by their demands, leave
pub interval_is_left : IntervalIsLeft
interval_is_left s ms es n are = inside_all s ms es n are.in_order

-- ---- objects that fold, and others

-- by `OutsideIsAnError`, a schema object that folds to false refuses every text
pub folded_refuse_texts : OutsideIsAnError → FoldedRefuseTexts
folded_refuse_texts outside s ms folds lists site text (es, are, reports) =
    let left = demands_of_placed s.place (all_demands es) in
    outside (all_assertions s.place es) lists site text
    (λ i. folds (length (chars text)) ((interval_is_left s ms es (length (chars text)) are).0 (rw left at i))) reports

-- an object that does not fold to false accepts some text, where only lengths can make errors
pub others_accept_some_text : OthersAcceptSomeText
others_accept_some_text s ms lists site (es, are, limits) unfolded =
    let w = interval (all_demands es) in
    elim (empty_or_least w) [
      | inl below ↦ absurd (unfolded (λ n h. below_is_empty w below n ((interval_is_left s ms es n are).1 h)))
      | inr inside ↦
          let made = text_of_length w.least in
          let there = subst (λ n. IsInside w n) (sym made.1.size) inside in (
            w.least,
            made.0,
            record {
              size = made.1;
              inside = (interval_is_left s ms es w.least are).0 inside;
              accepted = (es, are, inside_is_no_error s.place (all_demands es) lists site made.0 limits there);
            },
          )
    ]
