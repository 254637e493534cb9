-- How the code looks up the classes of a chain.
use Rattle.std.proofs.Common.{◌≡◌, ℕ, zero, suc, ◌+◌, ◌-◌, ◌<◌, ◌≤◌, nat_le, nat_lt, Bool, true, false, ◌&&◌, List, [], ◌∷◌, ◌++◌, length, drop, take}
use Rattle.std.proofs.Common.{replicate, get_or, slice_get, Some, refl, sym, ap, ap₂, ◌∙◌, true≢false, length-take-le, take_all, drop-cons, drop-drop}
use Rattle.std.proofs.Common.{drop_of_length-le, arith}
use Rattle.std.proofs.lemmas.Bool.Decides.{nat_tests}
use Rattle.std.proofs.lemmas.List.{length-drop, length-replicate}
use Rattle.std.specs.Str.{IsAscii}
use Rattle.std.proofs.lemmas.Str.Ascii.{IsAscii-nil, IsAscii-cons}
use Rattle.strkw_ecma.specs.machine.Chains.{is_often, numbers_of, ends_of, is_chained}
use Rattle.strkw_ecma.specs.machine.Links.{begins_with, are_below}
use Rattle.strkw_regex_search.specs.machine.Machine.{class_reads}
use Rattle.strkw_ecma.specs.declared.links.FixedSequence.{FixedSequence}
use Rattle.strkw_regex_search.specs.declared.code.Class.{Class}
use Rattle.strkw_charset.proofs.Booleans.{and_left, and_right}

-- at a place of a list stands what is looked up there
pub first_left : (xs : List ℕ) (k : ℕ) → k < length xs → drop k xs ≡ get_or xs k 0 ∷ drop (k + 1) xs
first_left xs k h =
    let next : suc k ≡ k + 1 = omega arith in
    drop-cons xs k 0 h ∙ ap (λ (n : ℕ). get_or xs k 0 ∷ drop n xs) next

module _ (classes : List Class) where
  -- a text that begins with a character of each of some classes, and behind these with others, begins with all
  pub begins_behind : (ms ns cs : List ℕ)
      → begins_with classes (ms ++ ns) cs ≡ (begins_with classes ms cs && begins_with classes ns (drop (length ms) cs))
  begins_behind [] ns cs = refl
  begins_behind (m ∷ ms) ns [] = refl
  begins_behind (m ∷ ms) ns (c ∷ cs) =
      ap (λ (b : Bool). class_reads (Some c) (slice_get classes m) && b) (begins_behind ms ns cs)
      ∙ grouped (class_reads (Some c) (slice_get classes m)) _ _
    where
      -- in either grouping
      grouped : (a b d : Bool) → (a && (b && d)) ≡ ((a && b) && d)
      grouped true b d = refl
      grouped false b d = refl

  -- it has as many characters at least
  pub begins_long : (ns cs : List ℕ) → begins_with classes ns cs ≡ true → length ns ≤ length cs
  begins_long [] cs h = omega arith
  begins_long (n ∷ ns) [] h = absurd (true≢false (sym h))
  begins_long (n ∷ ns) (c ∷ cs) h = omega (arith, begins_long ns cs (and_right (class_reads (Some c) (slice_get classes n)) _ h))

  -- no more characters than there are classes are looked at
  pub begins_within : (ns cs : List ℕ) → begins_with classes ns (take (length ns) cs) ≡ begins_with classes ns cs
  begins_within [] cs = refl
  begins_within (n ∷ ns) [] = refl
  begins_within (n ∷ ns) (c ∷ cs) = ap (λ (b : Bool). class_reads (Some c) (slice_get classes n) && b) (begins_within ns cs)

  -- what stands behind some classes that have their characters tells the answer
  pub parts_passed : (ns ms more cs ds left : List ℕ) → ns ≡ ms ++ more → cs ≡ ds ++ left → length ms ≡ length ds
      → begins_with classes ms ds ≡ true → begins_with classes more left ≡ begins_with classes ns cs
  parts_passed ns ms more cs ds left e f long h = passed ms ds long h ∙ sym (ap₂ (begins_with classes) e f)
    where
      -- of both lists in two parts
      passed : (ms ds : List ℕ) → length ms ≡ length ds → begins_with classes ms ds ≡ true
          → begins_with classes more left ≡ begins_with classes (ms ++ more) (ds ++ left)
      passed [] [] long h = refl
      passed [] (d ∷ ds) long h = absurd (omega (arith, long))
      passed (m ∷ ms) [] long h = absurd (omega (arith, long))
      passed (m ∷ ms) (d ∷ ds) long h =
          passed ms ds (omega (arith, long)) (and_right (class_reads (Some d) (slice_get classes m)) _ h)
          ∙ sym (ap (λ (b : Bool). b && begins_with classes (ms ++ more) (ds ++ left)) (and_left (class_reads (Some d) (slice_get classes m)) _ h))

  -- the class and the character of a place are looked up, and those behind
  by_place : (ns cs : List ℕ) (k : ℕ) → k < length ns → k < length cs
      → begins_with classes (drop k ns) (drop k cs)
      ≡ (class_reads (Some (get_or cs k 0)) (slice_get classes (get_or ns k 0)) && begins_with classes (drop (k + 1) ns) (drop (k + 1) cs))
  by_place ns cs k h g = ap₂ (begins_with classes) (first_left ns k h) (first_left cs k g)

  -- four of them
  pub four_begin : (ns cs : List ℕ) → length ns ≡ 4 → length cs ≡ 4
      → begins_with classes ns cs
      ≡ (((class_reads (Some (get_or cs 0 0)) (slice_get classes (get_or ns 0 0)) && class_reads (Some (get_or cs 1 0)) (slice_get classes (get_or ns 1 0)))
      && class_reads (Some (get_or cs 2 0)) (slice_get classes (get_or ns 2 0)))
      && class_reads (Some (get_or cs 3 0)) (slice_get classes (get_or ns 3 0)))
  four_begin ns cs h g =
      let one = by_place ns cs 0 (omega (arith, h)) (omega (arith, g)) in
      let two = by_place ns cs 1 (omega (arith, h)) (omega (arith, g)) in
      let three = by_place ns cs 2 (omega (arith, h)) (omega (arith, g)) in
      let four = by_place ns cs 3 (omega (arith, h)) (omega (arith, g)) in
      let none : begins_with classes (drop 4 ns) (drop 4 cs) ≡ true =
      ap (λ (l : List ℕ). begins_with classes l (drop 4 cs)) (drop_of_length-le ns {i = 4} (omega (arith, h))) in
      let a = class_reads (Some (get_or cs 0 0)) (slice_get classes (get_or ns 0 0)) in
      let b = class_reads (Some (get_or cs 1 0)) (slice_get classes (get_or ns 1 0)) in
      let d = class_reads (Some (get_or cs 2 0)) (slice_get classes (get_or ns 2 0)) in
      let f = class_reads (Some (get_or cs 3 0)) (slice_get classes (get_or ns 3 0)) in
      one
      ∙ ap (λ (x : Bool). a && x) (two ∙ ap (λ (x : Bool). b && x) (three ∙ ap (λ (x : Bool). d && x) (four ∙ ap (λ (x : Bool). f && x) none)))
      ∙ regrouped a b d f
    where
      -- in another grouping
      regrouped : (a b d f : Bool) → (a && (b && (d && (f && true)))) ≡ (((a && b) && d) && f)
      regrouped true true true true = refl
      regrouped true true true false = refl
      regrouped true true false f = refl
      regrouped true false d f = refl
      regrouped false b d f = refl

  -- one class and one character more are behind, where the class has it
  pub one_passed : (ns ms cs ds : List ℕ) (n c : ℕ) → ns ≡ n ∷ ms → cs ≡ c ∷ ds → class_reads (Some c) (slice_get classes n) ≡ true
      → begins_with classes ms ds ≡ begins_with classes ns cs
  one_passed ns ms cs ds n c e f h =
      ap (λ (b : Bool). b && begins_with classes ms ds) (sym h)
      ∙ sym (ap (λ (l : List ℕ). begins_with classes l (c ∷ ds)) e) ∙ sym (ap (begins_with classes ns) f)

  -- they are not there where the text has ended
  pub text_ends : (ns ms cs : List ℕ) (n : ℕ) → ns ≡ n ∷ ms → cs ≡ [] → false ≡ begins_with classes ns cs
  text_ends ns ms cs n e f = sym (ap (λ (l : List ℕ). begins_with classes l []) e) ∙ sym (ap (begins_with classes ns) f)

  -- a text is a chain where its three parts are there
  pub chained_parts : (c : FixedSequence) (count : ℕ) (text : List ℕ) → count + ends_of c ≡ length text → is_often c.often count ≡ true
      → is_chained classes c text ≡ (begins_with classes c.first.items text
      && (begins_with classes (replicate count c.middle) (drop (length c.first.items) text)
      && begins_with classes c.last.items (drop count (drop (length c.first.items) text))))
  chained_parts c count text all often =
      let first = c.first.items in
      let some = replicate count c.middle in
      let long : nat_le (ends_of c) (length text) ≡ true = grind (arith, nat_tests, all) in
      let is : length text - ends_of c ≡ count = omega (arith, all) in
      ap (λ (b : Bool). b && (is_often c.often (length text - ends_of c) && begins_with classes (numbers_of c (length text - ends_of c)) text)) long
      ∙ ap (λ (n : ℕ). is_often c.often n && begins_with classes (numbers_of c n) text) is
      ∙ ap (λ (b : Bool). b && begins_with classes (numbers_of c count) text) often
      ∙ begins_behind first (some ++ c.last.items) text
      ∙ ap (λ (b : Bool). begins_with classes first text && b)
      (begins_behind some c.last.items (drop (length first) text)
      ∙ ap (λ (n : ℕ). begins_with classes some (drop (length first) text) && begins_with classes c.last.items (drop n (drop (length first) text)))
      (length-replicate count c.middle))

  -- of a slice of so many characters
  pub begins_slice : (n count : ℕ) (xs ys : List ℕ) → xs ≡ ys → count ≤ length ys
      → begins_with classes (replicate (length (take count xs)) n) (take count xs) ≡ begins_with classes (replicate count n) ys
  begins_slice n count xs ys e long =
      ap (λ (l : List ℕ). begins_with classes (replicate (length (take count l)) n) (take count l)) e
      ∙ ap (λ (m : ℕ). begins_with classes (replicate m n) (take count ys)) (length-take-le count ys long)
      ∙ ap (λ (m : ℕ). begins_with classes (replicate count n) (take m ys)) (sym (length-replicate count n))
      ∙ begins_within (replicate count n) ys

  module _ (c : FixedSequence) (count : ℕ) (text : List ℕ) (all : count + ends_of c ≡ length text) (often : is_often c.often count ≡ true) where
    -- what stands behind the first part, and the last
    abbrev last_part : Bool
    last_part = begins_with classes c.last.items (drop count (drop (length c.first.items) text))

    abbrev rest_part : Bool
    rest_part = begins_with classes (replicate count c.middle) (drop (length c.first.items) text) && last_part

    -- it is none where the first part is not there
    pub no_first : begins_with classes c.first.items text ≡ false → false ≡ is_chained classes c text
    no_first none = sym (chained_parts c count text all often ∙ ap (λ (b : Bool). b && rest_part) none)

    -- nor where the second is not
    pub no_middle : begins_with classes c.first.items text ≡ true
        → begins_with classes (replicate count c.middle) (drop (length c.first.items) text) ≡ false → false ≡ is_chained classes c text
    no_middle one none =
        sym (chained_parts c count text all often ∙ ap (λ (b : Bool). b && rest_part) one ∙ ap (λ (b : Bool). b && last_part) none)

    -- where both are, the last tells it
    pub by_last : begins_with classes c.first.items text ≡ true
        → begins_with classes (replicate count c.middle) (drop (length c.first.items) text) ≡ true
        → begins_with classes c.last.items (drop count (drop (length c.first.items) text)) ≡ is_chained classes c text
    by_last one two =
        sym (chained_parts c count text all often ∙ ap (λ (b : Bool). b && rest_part) one ∙ ap (λ (b : Bool). b && last_part) two)

  -- where its length does not fit, a text is no chain
  pub no_length : (c : FixedSequence) (text : List ℕ) → (nat_le (ends_of c) (length text) && is_often c.often (length text - ends_of c)) ≡ false
      → false ≡ is_chained classes c text
  no_length c text none =
      sym (regrouped (nat_le (ends_of c) (length text)) (is_often c.often (length text - ends_of c)) _
      ∙ ap (λ (b : Bool). b && begins_with classes (numbers_of c (length text - ends_of c)) text) none)
    where
      -- three in either grouping
      regrouped : (a b d : Bool) → (a && (b && d)) ≡ ((a && b) && d)
      regrouped true b d = refl
      regrouped false b d = refl

-- of what is left at a place the first is gone at the next
pub next_behind : (k : ℕ) (text left rest : List ℕ) (c : ℕ) → left ≡ drop k text → left ≡ c ∷ rest → rest ≡ drop (k + 1) text
next_behind k text left rest c e f = ap (drop 1) (sym f ∙ e) ∙ drop-drop 1 k text

-- of copies one fewer is left at the next
pub one_copy_less : (count k n : ℕ) → k < count → replicate (count - k) n ≡ n ∷ replicate (count - (k + 1)) n
one_copy_less count k n h =
    let less : count - k ≡ suc (count - (k + 1)) = omega (arith, h) in
    ap (λ (m : ℕ). replicate m n) less

-- what stands from a place on
pub from_place : {A : Type 0} (xs : List A) (n k : ℕ) → n ≡ k → take (length xs - n) (drop n xs) ≡ drop k xs
from_place xs n k e =
    let all : length (drop n xs) ≤ length xs - n = omega (arith, length-drop n xs) in
    take_all (length xs - n) (drop n xs) all ∙ ap (λ (m : ℕ). drop m xs) e

-- of numbers that are all less than another, those from a place on are too
pub below_drop : (n k : ℕ) (ms : List ℕ) → are_below n ms ≡ true → are_below n (drop k ms) ≡ true
below_drop n zero ms h = h
below_drop n (suc k) [] h = refl
below_drop n (suc k) (m ∷ ms) h = below_drop n k ms (and_right (nat_lt m n) _ h)

-- of a text of ASCII some first characters are one
pub ascii_take : (k : ℕ) (cs : List ℕ) → IsAscii cs → IsAscii (take k cs)
ascii_take zero cs h = IsAscii-nil
ascii_take (suc k) [] h = IsAscii-nil
ascii_take (suc k) (c ∷ cs) h = IsAscii-cons c (take k cs) (h 0) (ascii_take k cs (λ i. h (suc i)))

-- and those behind them
pub ascii_drop : (k : ℕ) (cs : List ℕ) → IsAscii cs → IsAscii (drop k cs)
ascii_drop zero cs h = h
ascii_drop (suc k) [] h = h
ascii_drop (suc k) (c ∷ cs) h = ascii_drop k cs (λ i. h (suc i))
