-- A host name's labels are its parts between dots.
use Rattle.std.proofs.Common.{◌≡◌, ◌≢◌, ℕ, ◌<◌, ◌≤◌, true, eqb, List, [], ◌∷◌, ◌↔◌, length, get_or, arith, sym, subst}
use Rattle.std.specs.List.{AllByRecursion, slice_split}
use Rattle.std.specs.Str.{IsAscii}
use Rattle.std.proofs.lemmas.Bool.Decides.{nat_tests}
use Rattle.std.proofs.lemmas.List.Elements.{recursion_from_All}
use Rattle.strkw_text.specs.Delimiters.{Without}
use Rattle.strkw_text.proofs.Separated.{joined-from_separated, separated_parts}
use Rattle.strkw_text.proofs.AsciiForms.{DerivesAscii, IsAscii-joined, IsAscii-from_each}
use Rattle.strkw_net.specs.HostName.{IsAsciiHostName, IsLabel, is_letter_digit_hyphen}

-- a letter, a digit or a hyphen is no dot
letter_no_dot : (c : ℕ) → is_letter_digit_hyphen c ≡ true → c ≢ 46
letter_no_dot c e dot = grind (arith, nat_tests)

-- a letter, a digit or a hyphen is an ASCII character
letter_ascii : (c : ℕ) → is_letter_digit_hyphen c ≡ true → c < 128
letter_ascii c e = grind (arith, nat_tests)

-- the parts of a text between its dots
abbrev pub parts : List ℕ → List (List ℕ)
parts bs = slice_split (λ b. eqb b 46) bs

-- no character of a label is a dot
pub label_without_dot : (label : List ℕ) → IsLabel label → Without 46 label
label_without_dot label w = recursion_from_All (λ b. b ≢ 46) label (λ k d h. letter_no_dot _ (w.letters k d h))

-- an ASCII host name has at most 253 characters, and its parts between dots are labels
pub host_name_by_parts : (bs : List ℕ) → IsAsciiHostName bs ↔ ((length bs ≤ 253) × AllByRecursion IsLabel (parts bs))
host_name_by_parts bs =
    let by = separated_parts 46 IsLabel label_without_dot bs in
    (λ w. (w.size, by.0 w.labels), λ h. record { labels = by.1 h.1; size = h.0 })

-- the parts of a host name between dots are labels
pub host_name_parts : (bs : List ℕ) → IsAsciiHostName bs → AllByRecursion IsLabel (parts bs)
host_name_parts bs w = ((host_name_by_parts bs).0 w).1

-- a text of at most 253 characters, whose parts between dots are labels, is a host name
pub IsAsciiHostName-from_parts : (bs : List ℕ) → length bs ≤ 253 → AllByRecursion IsLabel (parts bs) → IsAsciiHostName bs
IsAsciiHostName-from_parts bs n a = (host_name_by_parts bs).1 (n, a)

-- each of several labels is of ASCII characters
labels_ascii : (labels : List (List ℕ)) → AllByRecursion IsLabel labels → AllByRecursion IsAscii labels
labels_ascii [] a = tt
labels_ascii (x ∷ labels) a = (
  IsAscii-from_each x (recursion_from_All (λ c. c < 128) x (λ k d h. letter_ascii (get_or x k d) (a.0.letters k d h))),
  labels_ascii labels a.1,
)

-- a host name of this grammar is of ASCII characters
pub IsAsciiHostName-ascii : DerivesAscii IsAsciiHostName
IsAsciiHostName-ascii text w =
    let j = joined-from_separated 46 IsLabel text w.labels in
    subst IsAscii (sym j.spelled) (IsAscii-joined 46 j.parts (omega arith) (labels_ascii j.parts j.each))
