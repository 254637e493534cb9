-- The elements of an array, by number.
use Rattle.std.proofs.Common.{◌≡◌, ◌==◌, ℕ, zero, suc, ◌+◌, ◌-◌, ◌<◌, ◌≤◌, ◌^◌, List, [], ◌∷◌, Bool, true, false, Option, Some, None, length, refl, sym, arith}
use Rattle.std.proofs.lemmas.Bool.Decides.{nat_tests}
use Rattle.std.specs.Prelude.{if◌then◌else◌, ◌&&◌, nat_lt, option_and_then, slice_get}
use Rattle.std.specs.Str.Parse.{digits_value}
use Rattle.neldrafi_position.specs.Parts.{begins_with_closing, behind_separators, behind_space, closes, elements, in_escape, in_string, opens, separates}
use Rattle.neldrafi_position.specs.Places.{element, index_of, is_index}
use Rattle.neldrafi_position.specs.machine.Tokens.{index_in_word}

-- ---- there are no more of them than the text has characters, and one

either_short : (b : Bool) (xs ys : List (List ℕ)) (n : ℕ) → length xs ≤ n → length ys ≤ n → length (if b then xs else ys) ≤ n
either_short true xs ys n h f = h
either_short false xs ys n h f = f

pub record AreFew (text : List ℕ) : Type 0 where
  pub outside : (depth : ℕ) → length (behind_separators depth text) ≤ length text
  pub within : (depth : ℕ) → length (in_string depth text) ≤ length text
  pub escaped : (depth : ℕ) → length (in_escape depth text) ≤ length text

few : (text : List ℕ) → AreFew text
few [] = record { outside = λ d. omega arith; within = λ d. omega arith; escaped = λ d. omega arith }
few (c ∷ text) =
    let rest = few text in
    let n = length (c ∷ text) in
    record {
      outside = λ d.
          either_short (c == 34) _ _ n (let s = rest.within d in omega arith)
          (either_short (opens c) _ _ n (let s = rest.outside (d + 1) in omega arith)
          (either_short (closes c) _ _ n (either_short (d == 0) _ _ n (omega arith) (let s = rest.outside (d - 1) in omega arith))
          (either_short (separates c && d == 0) _ _ n (let s = rest.outside 0 in omega arith) (let s = rest.outside d in omega arith))));
      within = λ d.
          either_short (c == 34) _ _ n (let s = rest.outside d in omega arith)
          (either_short (c == 92) _ _ n (let s = rest.escaped d in omega arith) (let s = rest.within d in omega arith));
      escaped = λ d. let s = rest.within d in omega arith;
    }

few_elements : (text : List ℕ) → length (elements text) ≤ length text + 1
few_elements text =
    either_short (begins_with_closing (behind_space text)) [] (text ∷ behind_separators 0 text) _ (omega arith)
    (let s = (few text).outside 0 in omega arith)

nothing_beyond : (xs : List (List ℕ)) (n : ℕ) → length xs ≤ n → slice_get xs n ≡ None
nothing_beyond [] n h = refl
nothing_beyond (x ∷ xs) zero h = absurd (omega arith)
nothing_beyond (x ∷ xs) (suc n) h = nothing_beyond xs n (omega arith)

-- ---- an index of more than 64 bits is that of none

named : (f : ℕ → Option (List ℕ)) (n : ℕ) (index fits : Bool) → (fits ≡ false → f n ≡ None)
    → option_and_then f (if index && fits then Some n else None) ≡ option_and_then f (if index then Some n else None)
named f n false fits large = refl
named f n true true large = refl
named f n true false large = sym (large refl)

pub element_is : (token text : List ℕ) → length text < 2 ^ 63 → option_and_then (slice_get (elements text)) (index_in_word token) ≡ element token text
unfolding index_of index_in_word
element_is token text h =
    named (slice_get (elements text)) (digits_value 10 token) (is_index token) (nat_lt (digits_value 10 token) (2 ^ 64))
    (λ e. nothing_beyond (elements text) (digits_value 10 token)
    (let s = few_elements text in let large : 2 ^ 64 ≤ digits_value 10 token = grind (arith, nat_tests) in omega arith))
