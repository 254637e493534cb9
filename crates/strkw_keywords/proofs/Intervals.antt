-- On the lengths that keywords leave to a text.
use Rattle.std.proofs.Common.{◌≡◌, ◌<◌, ◌≤◌, ◌↔◌, ◌⊎◌, ℕ, zero, suc, List, [], ◌∷◌, ◌++◌, length, true, Option, Some, None, IfSome, refl, sym, ap, ap₂, subst}
use Rattle.std.proofs.Common.{◌∙◌, inl, inr, arith}
use Rattle.std.specs.Prelude.{IsTrue, unwrap_or, option_map, nat_lt, max, min, ◌-◌, ◌^◌}
use Rattle.std.specs.Str.{chars, IsAscii}
use Rattle.std.proofs.Math.Nat.{le-min, max-le, max-zero, zero-max, min-eq_left, min-eq_right}
use Rattle.std.proofs.lemmas.Bool.{cases_lt}
use Rattle.std.proofs.lemmas.Bool.Decides.{nat_tests}
use Rattle.std.proofs.lemmas.Str.{chars-IsAscii, IsUtf8-from_ascii}
use Rattle.std.proofs.lemmas.Str.Ascii.{IsAscii-nil, IsAscii-cons}
use Rattle.strkw_report.specs.declared.error.Site.{Site}
use Rattle.strkw_formats.specs.declared.builtin.BuiltinFormat.{BuiltinFormat}
use Rattle.strkw_keywords.specs.Meanings.{Lists, builtin, row}
use Rattle.strkw_keywords.specs.Places.{Place, standing}
use Rattle.strkw_formats.specs.Formats.{IsOfBuiltin, Window, window_of, bounds}
use Rattle.strkw_formats.specs.FormatLaws.{IsInside}
use Rattle.strkw_keywords.specs.Demands.{Demand, is_media_type, is_encoded, encodes_media_type, is_format, at_least, at_most, compares, matches, HasFinding}
use Rattle.strkw_keywords.specs.Errors.{Assertion, assertions_at, demands_asserted, AllReport}
use Rattle.strkw_keywords.specs.Lengths.{any_length, IsEmpty, lesser_end, common, window_left, interval, IsLimit, AreLimits, IsTextOfLength, CommonIsInBoth}
use Rattle.strkw_keywords.specs.Lengths.{EmptyByItsEnds, OutsideIsAnError}
use Rattle.strkw_keywords.proofs.Reports.{none_reported}

-- ---- numbers

-- what is no less than the greater of two numbers is no less than each
max_both : (a b n : ℕ) → max a b ≤ n → (a ≤ n) × (b ≤ n)
max_both a b n h = (omega (arith, h), omega (arith, h))

-- what is no greater than the lesser of two numbers is no greater than each
min_both : (a b n : ℕ) → n ≤ min a b → (n ≤ a) × (n ≤ b)
min_both a b n h = (omega (arith, h), omega (arith, h))

-- for the greatest of three numbers it is no matter which two are compared first
max_assoc : (a b c : ℕ) → max a (max b c) ≡ max (max a b) c
max_assoc a b c = omega arith

-- nor is it for the least
min_assoc : (a b c : ℕ) → min a (min b c) ≡ min (min a b) c
min_assoc a b c = omega arith

-- the lesser of a number and itself is that number
min_same : (a : ℕ) → a ≡ min a a
min_same a = omega arith

-- where a number is less than another, the test of it is true
test_of_lt : (a b : ℕ) → a < b → nat_lt a b ≡ true
test_of_lt a b h = grind (arith, nat_tests)

-- and only there
lt_of_test : (a b : ℕ) → nat_lt a b ≡ true → a < b
lt_of_test a b h = grind (arith, nat_tests)

-- ---- windows

-- a number is no greater than the lesser of two ends exactly where it passes neither
below_both : (a b : Option ℕ) (n : ℕ) → IfSome (lesser_end a b) (λ g. n ≤ g) ↔ (IfSome a (λ g. n ≤ g) × IfSome b (λ g. n ≤ g))
below_both None None n = ((λ h. (tt, tt)), (λ h. tt))
below_both None (Some b) n = ((λ h. (tt, h)), (λ h. h.1))
below_both (Some a) None n = ((λ h. (h, tt)), (λ h. h.0))
below_both (Some a) (Some b) n = ((λ h. min_both a b n h), (λ h. le-min h.0 h.1))

-- a length is inside what two windows have in common exactly where it is inside each
pub inside_common : CommonIsInBoth
inside_common v w n =
    let ends = below_both v.greatest w.greatest n in (
      (λ h.
          let both = ends.0 h.short_enough in
          let low = max_both v.least w.least n h.long_enough in
          (record { long_enough = low.0; short_enough = both.0 }, record { long_enough = low.1; short_enough = both.1 })),
      (λ h. record { long_enough = max-le h.0.long_enough h.1.long_enough; short_enough = ends.1 (h.0.short_enough, h.1.short_enough) }),
    )

-- the upper end is closed, below the lower one
abbrev EndsBelow : ℕ → Option ℕ → Type 0
EndsBelow least end = (g : ℕ) × (end ≡ Some g) × (g < least)

-- an upper end is closed below the lower one, or open, or no less than it
ends_below_or_not : (least : ℕ) (end : Option ℕ) → EndsBelow least end ⊎ IfSome end (λ g. least ≤ g)
ends_below_or_not least None = inr tt
ends_below_or_not least (Some g) = elim (cases_lt g least) [
  | inl lt ↦ inl (g, refl, lt)
  | inr ge ↦ inr ge
]

-- where the upper end is not below it, the least length of a window is inside
inside_least : (w : Window) → IfSome w.greatest (λ g. w.least ≤ g) → IsInside w w.least
inside_least w h = record { long_enough = omega arith; short_enough = h }

-- a window whose upper end is closed, below the lower one, is empty
pub below_is_empty : (w : Window) → EndsBelow w.least w.greatest → IsEmpty w
below_is_empty w (g, e, lt) n i = let high : n ≤ g = subst (λ o. IfSome o (λ x. n ≤ x)) e i.short_enough in omega (arith, lt, high, i.long_enough)

-- a window is empty, or its least length is inside
pub empty_or_least : (w : Window) → EndsBelow w.least w.greatest ⊎ IsInside w w.least
empty_or_least w = elim (ends_below_or_not w.least w.greatest) [
  | inl below ↦ inl below
  | inr above ↦ inr (inside_least w above)
]

-- a window is empty exactly where its upper end is closed, below the lower one
pub empty_by_its_ends : EmptyByItsEnds
empty_by_its_ends w = (
  (λ h. elim (empty_or_least w) [
    | inl below ↦ below
    | inr inside ↦ absurd (h w.least inside)
  ]),
  below_is_empty w,
)

-- ---- windows in common

-- the window that has these ends
abbrev window : ℕ → Option ℕ → Window
window least greatest = record { least = least; greatest = greatest }

-- windows that have the same ends are the same
window_path : (v w : Window) → v.least ≡ w.least → v.greatest ≡ w.greatest → v ≡ w
window_path v w l g = ap₂ window l g

-- the lesser of an end and an open one is the former
lesser-open : (a : Option ℕ) → lesser_end a None ≡ a
lesser-open None = refl
lesser-open (Some a) = refl

-- for the least of three ends it is no matter which two are compared first
lesser-assoc : (a b c : Option ℕ) → lesser_end a (lesser_end b c) ≡ lesser_end (lesser_end a b) c
lesser-assoc None b c = refl
lesser-assoc (Some a) None c = refl
lesser-assoc (Some a) (Some b) None = refl
lesser-assoc (Some a) (Some b) (Some c) = ap Some (min_assoc a b c)

-- what a window has in common with every length is the window
pub common_any : (w : Window) → common w any_length ≡ w
common_any w = window_path (common w any_length) w (max-zero w.least) (lesser-open w.greatest)

-- and so is what every length has in common with it
pub any_common : (w : Window) → common any_length w ≡ w
any_common w = window_path (common any_length w) w (zero-max w.least) refl

-- for what three windows have in common it is no matter which two are joined first
common-assoc : (u v w : Window) → common u (common v w) ≡ common (common u v) w
common-assoc u v w = window_path (common u (common v w)) (common (common u v) w) (max_assoc u.least v.least w.least)
    (lesser-assoc u.greatest v.greatest w.greatest)

-- the interval of demands and of others behind them
pub interval_append : (front back : List Demand) → interval (front ++ back) ≡ common (interval front) (interval back)
interval_append [] back = sym (any_common (interval back))
interval_append (d ∷ front) back = ap (common (window_left d)) (interval_append front back) ∙ common-assoc (window_left d) (interval front) (interval back)

-- ---- both ends as numbers, of which none is above an open end

-- the number of the lesser end is the lesser of both numbers, where neither is above `top`
pub ends_in_common : (a b : Option ℕ) (top : ℕ) → unwrap_or a top ≤ top → unwrap_or b top ≤ top
    → unwrap_or (lesser_end a b) top ≡ min (unwrap_or a top) (unwrap_or b top)
ends_in_common None None top l m = min_same top
ends_in_common None (Some b) top l m = sym (min-eq_right m)
ends_in_common (Some a) None top l m = sym (min-eq_left l)
ends_in_common (Some a) (Some b) top l m = refl

-- an upper end whose number is less than the lower one, at most `top`, is closed below it
below_by_numbers : (least : ℕ) (end : Option ℕ) (top : ℕ) → least ≤ top → nat_lt (unwrap_or end top) least ≡ true → EndsBelow least end
below_by_numbers least None top l t = let lt = lt_of_test top least t in absurd (omega (arith, l, lt))
below_by_numbers least (Some g) top l t = (g, refl, lt_of_test g least t)

-- and the number of an upper end that is closed below the lower one is less
numbers_by_below : (least : ℕ) (end : Option ℕ) (top : ℕ) → least ≤ top → EndsBelow least end → nat_lt (unwrap_or end top) least ≡ true
numbers_by_below least end top l (g, e, lt) = rw e (test_of_lt g least lt)

-- the numbers of the ends tell that nothing is between them, where the lower one is none above the greatest
pub empty_by_numbers : (w : Window) (top : ℕ) → w.least ≤ top → IsTrue (nat_lt (unwrap_or w.greatest top) w.least) ↔ IsEmpty w
empty_by_numbers w top l = (
  (λ t. below_is_empty w (below_by_numbers w.least w.greatest top l t)),
  (λ h. numbers_by_below w.least w.greatest top l ((empty_by_its_ends w).0 h)),
)

-- the ends of a window as numbers are, where there is no window, those of every length
pub bounds_unwrapped : (o : Option Window) → unwrap_or (option_map bounds o) (0, 2 ^ 64 - 1) ≡ bounds (unwrap_or o any_length)
bounds_unwrapped None = refl
bounds_unwrapped (Some w) = refl

-- ---- a text without errors has a length inside

-- texts of formats are inside their windows
abbrev pub TextsAreInside : Type 0
TextsAreInside = (f : BuiltinFormat) (text : List ℕ) → IsOfBuiltin f text → IfSome (window_of f) (λ w. IsInside w (length text))

-- each number is inside every length
pub inside_any : (n : ℕ) → IsInside any_length n
inside_any n = record { long_enough = omega arith; short_enough = tt }

-- what is inside a window, if there is one, is inside the window or, without one, every length
inside_unwrapped : (o : Option Window) (n : ℕ) → IfSome o (λ w. IsInside w n) → IsInside (unwrap_or o any_length) n
inside_unwrapped None n h = inside_any n
inside_unwrapped (Some w) n h = h

-- where formats keep to their windows, a text that meets a demand has a length that it leaves
inside_one : TextsAreInside → (d : Demand) (lists : Lists) (text : List ℕ) → HasFinding d lists text None → IsInside (window_left d) (length (chars text))
inside_one law (is_media_type m) lists text h = inside_any (length (chars text))
inside_one law (is_encoded c) lists text h = inside_any (length (chars text))
inside_one law (encodes_media_type c m) lists text h = inside_any (length (chars text))
inside_one law (is_format (builtin f)) lists text (inl h) = inside_unwrapped (window_of f) (length (chars text)) (law f (chars text) h.0)
inside_one law (is_format (builtin f)) lists text (inr h) = let e = h.1 in absurd (cc)
inside_one law (is_format (row at name)) lists text h = inside_any (length (chars text))
inside_one law (at_least n) lists text (inl h) = record { long_enough = h.0; short_enough = tt }
inside_one law (at_least n) lists text (inr h) = let e = h.1 in absurd (cc)
inside_one law (at_most n) lists text (inl h) = record { long_enough = omega arith; short_enough = h.0 }
inside_one law (at_most n) lists text (inr h) = let e = h.1 in absurd (cc)
inside_one law (compares p outcome) lists text h = inside_any (length (chars text))
inside_one law (matches p outcome) lists text h = inside_any (length (chars text))

-- and a text without errors has a length inside the interval of what is demanded
inside_all : TextsAreInside → (assertions : List Assertion) (lists : Lists) (site : Site) (text : List ℕ) → AllReport assertions lists site text []
    → IsInside (interval (demands_asserted assertions)) (length (chars text))
inside_all law [] lists site text h = inside_any (length (chars text))
inside_all law (a ∷ others) lists site text h =
    let parts = none_reported (standing a.place site) text h.0 h.1 h.3 in
    let first = inside_one law a.demand lists text (subst (λ found. HasFinding a.demand lists text found) parts.0 h.2) in
    let rest = inside_all law others lists site text (subst (λ rs. AllReport others lists site text rs) parts.1 h.4) in
    (inside_common (window_left a.demand) (interval (demands_asserted others)) (length (chars text))).1 (first, rest)

-- so a text of a length outside the interval has an error
pub outside_is_an_error : TextsAreInside → OutsideIsAnError
outside_is_an_error law assertions lists site text outside h = outside (inside_all law assertions lists site text h)

-- ---- a text of a length inside meets limits

-- a text of a length that a limit leaves meets the limit
meets_limit : (d : Demand) (lists : Lists) (text : List ℕ) → IsLimit d → IsInside (window_left d) (length (chars text)) → HasFinding d lists text None
meets_limit (is_media_type m) lists text l i = absurd l
meets_limit (is_encoded c) lists text l i = absurd l
meets_limit (encodes_media_type c m) lists text l i = absurd l
meets_limit (is_format f) lists text l i = absurd l
meets_limit (at_least n) lists text l i = inl (i.long_enough, refl)
meets_limit (at_most n) lists text l i = inl (i.short_enough, refl)
meets_limit (compares p outcome) lists text l i = absurd l
meets_limit (matches p outcome) lists text l i = absurd l

-- a text of a length inside the interval has no errors, where all demands are limits
pub inside_is_no_error : (place : Place) (ds : List Demand) (lists : Lists) (site : Site) (text : List ℕ) → AreLimits ds
    → IsInside (interval ds) (length (chars text)) → AllReport (assertions_at place ds) lists site text []
inside_is_no_error place [] lists site text l i = refl
inside_is_no_error place (d ∷ others) lists site text l i =
    let both = (inside_common (window_left d) (interval others) (length (chars text))).0 i in
    (None, [], meets_limit d lists text l.0 both.0, refl, inside_is_no_error place others lists site text l.1 both.1)

-- ---- there is a text of every length

-- so many times the letter `a`
letters : ℕ → List ℕ
letters zero = []
letters (suc n) = 97 ∷ letters n

-- the letters are ASCII
letters_are_ascii : (n : ℕ) → IsAscii (letters n)
unfolding letters
letters_are_ascii zero = IsAscii-nil
letters_are_ascii (suc n) = IsAscii-cons 97 (letters n) (omega arith) (letters_are_ascii n)

-- and there are so many of them
length-letters : (n : ℕ) → length (letters n) ≡ n
unfolding letters
length-letters zero = refl
length-letters (suc n) = ap suc (length-letters n)

-- there is a text, in UTF-8, of each number of characters
pub text_of_length : (n : ℕ) → (text : List ℕ) × IsTextOfLength n text
text_of_length n = (
  letters n,
  record {
    utf8 = IsUtf8-from_ascii (letters n) (letters_are_ascii n);
    size = ap (λ x. length x) (chars-IsAscii (letters n) (letters_are_ascii n)) ∙ length-letters n;
  },
)
