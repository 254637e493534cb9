-- Texts that are host names: labels of letters and digits alone.
use Rattle.std.proofs.Common.{◌≡◌, ℕ, ◌-◌, ◌≤◌, true, List, [], ◌∷◌, length, get_or, refl, arith}
use Rattle.std.specs.Prelude.{codes, slice_index}
use Rattle.std.specs.Char.{is_ascii_alphanumeric}
use Rattle.std.specs.List.{list_all, AllByRecursion, join_with_byte}
use Rattle.std.proofs.lemmas.Bool.Decides.{nat_tests}
use Rattle.std.proofs.lemmas.List.Sums.{AllPass-from_list_all}
use Rattle.strkw_text.proofs.Separated.{separated-from_joined}
use Rattle.strkw_net.specs.HostName.{is_letter_digit_hyphen, letters, longest_name}
use Rattle.strkw_label.specs.HostName.{IsHostName, IsHostNameLabel}
use Rattle.strkw_label.proofs.XnLabels.{prefix_and_payload, hyphen_of_prefix}

-- no ASCII letter or digit is a hyphen
no_hyphen : (c : ℕ) → is_ascii_alphanumeric c ≡ true → c ≡ 45 → ⊥
no_hyphen c is e = grind (arith, nat_tests)

-- ASCII letters and digits are among letters, digits and hyphens
letter_or_digit : (c : ℕ) → is_ascii_alphanumeric c ≡ true → is_letter_digit_hyphen c ≡ true
letter_or_digit c is = grind (arith, nat_tests)

-- a label of letters and digits alone, so that no hyphen is third
plain_label : (label : List ℕ) → list_all is_ascii_alphanumeric label ≡ true → 1 ≤ length label → length label ≤ 63 → (slice_index label 2 ≡ 45 → ⊥)
    → IsHostNameLabel label
plain_label label letters some few third =
    let all = AllPass-from_list_all is_ascii_alphanumeric label letters in
    record {
      ascii = record {
        size = (some, few);
        letters = λ k d lt. letter_or_digit (get_or label k d) (all k d lt);
        first = λ e. no_hyphen _ (all 0 0 some) e;
        last = λ e. no_hyphen _ (all (length label - 1) 0 (omega arith)) e;
      };
      xn = record {
        reserved = λ e _. absurd (third e);
        encodes = λ p e. absurd (third (hyphen_of_prefix label 2 (omega arith) refl (prefix_and_payload label p e).0));
      };
    }

-- labels joined by dots, one at least and 253 characters at most, are a host name
host_name_of : (labels : List (List ℕ)) (text : List ℕ) → 1 ≤ length labels → AllByRecursion IsHostNameLabel labels → text ≡ join_with_byte 46 labels
    → length text ≤ 253 → IsHostName text
host_name_of labels text some each e few = record {
  labels = separated-from_joined 46 IsHostNameLabel text (record { parts = labels; some = some; each = each; spelled = e });
  size = few;
}

-- the text `example.com` is a host name
pub example_com : IsHostName (codes "example.com")
example_com =
    host_name_of (codes "example" ∷ codes "com" ∷ []) (codes "example.com") (omega arith) (
      plain_label (codes "example") refl (omega arith) (omega arith) (λ e. absurd (omega (arith, e))),
      (plain_label (codes "com") refl (omega arith) (omega arith) (λ e. absurd (omega (arith, e))), tt),
    )
    refl (omega arith)

-- the single letter `a` is a host name
pub shortest : IsHostName (codes "a")
shortest = host_name_of (codes "a" ∷ []) (codes "a") (omega arith)
    (plain_label (codes "a") refl (omega arith) (omega arith) (λ e. absurd (omega (arith, e))), tt) refl (omega arith)

-- 63 times the letter `a` is a label of a host name
label_63 : IsHostNameLabel (letters 63)
label_63 = plain_label (letters 63) refl (omega arith) (omega arith) (λ e. absurd (omega (arith, e)))

-- 61 times the letter `a` is a label of a host name
label_61 : IsHostNameLabel (letters 61)
label_61 = plain_label (letters 61) refl (omega arith) (omega arith) (λ e. absurd (omega (arith, e)))

-- labels of 63, 63, 63 and 61 letters
-- are, with dots between them, a host name
pub longest : IsHostName longest_name
longest =
    host_name_of (letters 63 ∷ letters 63 ∷ letters 63 ∷ letters 61 ∷ []) longest_name (omega arith)
    (label_63, (label_63, (label_63, (label_61, tt)))) refl (omega arith)
