-- The example, and texts of least and greatest length, are derived.
use Rattle.std.proofs.Common.{◌≡◌, ◌≢◌, ℕ, ◌-◌, ◌≤◌, ◌<◌, true, IsTrue, List, [], ◌∷◌, ◌++◌, length, get_or, refl, inl, arith}
use Rattle.std.specs.Prelude.{codes, replicate}
use Rattle.std.specs.List.{list_all}
use Rattle.std.proofs.lemmas.List.Elements.{recursion_from_All}
use Rattle.std.proofs.lemmas.List.Sums.{AllPass-from_list_all}
use Rattle.strkw_text.proofs.Classes.{repeat1_class}
use Rattle.strkw_text.proofs.Laws.{then}
use Rattle.strkw_text.proofs.Separated.{separated-from_joined}
use Rattle.strkw_net.specs.HostName.{is_letter_digit_hyphen}
use Rattle.strkw_mail.specs.Characters.{is_atext}
use Rattle.strkw_mail.specs.Mailbox.{Atom, IsSubDomain, IsMailbox, longest_mailbox}
use Rattle.strkw_mail.proofs.Domains.{sub_domain_label}

-- characters of the class, one at least, are an atom
atom : (text : List ℕ) → list_all is_atext text ≡ true → 0 < length text → Atom text
atom text all some = (repeat1_class is_atext text).1 (some, recursion_from_All (λ c. IsTrue (is_atext c)) text (AllPass-from_list_all is_atext text all))

-- letters, digits and hyphens, of which neither the first nor the last is a hyphen, are a label
label : (text : List ℕ) → list_all is_letter_digit_hyphen text ≡ true → 1 ≤ length text → length text ≤ 63 → get_or text 0 0 ≢ 45
    → get_or text (length text - 1) 0 ≢ 45 → IsSubDomain text
label text all some few first last = (sub_domain_label text).1 (record {
  size = (some, few);
  letters = AllPass-from_list_all is_letter_digit_hyphen text all;
  first = first;
  last = last;
})

-- joe.bloggs@example.com
pub example : IsMailbox (codes "joe.bloggs@example.com")
example = then (codes "joe.bloggs") (codes "@example.com") (codes "joe.bloggs@example.com")
    (record {
      rule = inl (separated-from_joined 46 Atom (codes "joe.bloggs") (record {
        parts = codes "joe" ∷ codes "bloggs" ∷ [];
        some = omega arith;
        each = (atom (codes "joe") refl (omega arith), (atom (codes "bloggs") refl (omega arith), tt));
        spelled = refl;
      }));
      size = omega arith;
    })
    (then (codes "@") (codes "example.com") (codes "@example.com") refl
    (record {
      rule = inl (separated-from_joined 46 IsSubDomain (codes "example.com") (record {
        parts = codes "example" ∷ codes "com" ∷ [];
        some = omega arith;
        each = (
          label (codes "example") refl (omega arith) (omega arith) (λ e. omega arith) (λ e. omega arith),
          (label (codes "com") refl (omega arith) (omega arith) (λ e. omega arith) (λ e. omega arith), tt),
        );
        spelled = refl;
      }));
      size = omega arith;
    }) refl) refl

-- a@b
pub shortest : IsMailbox (codes "a@b")
shortest = then (codes "a") (codes "@b") (codes "a@b")
    (record {
      rule = inl (separated-from_joined 46 Atom (codes "a")
          (record { parts = codes "a" ∷ []; some = omega arith; each = (atom (codes "a") refl (omega arith), tt); spelled = refl }));
      size = omega arith;
    })
    (then (codes "@") (codes "b") (codes "@b") refl
    (record {
      rule = inl (separated-from_joined 46 IsSubDomain (codes "b") (record {
        parts = codes "b" ∷ [];
        some = omega arith;
        each = (label (codes "b") refl (omega arith) (omega arith) (λ e. omega arith) (λ e. omega arith), tt);
        spelled = refl;
      }));
      size = omega arith;
    }) refl) refl

-- the letter a, 63 times, is a label
label_63 : IsSubDomain (replicate 63 97)
label_63 = label (replicate 63 97) refl (omega arith) (omega arith) (λ e. omega arith) (λ e. omega arith)

-- four such labels with dots between them
four_labels : List ℕ
four_labels = replicate 63 97 ++ 46 ∷ (replicate 63 97 ++ 46 ∷ (replicate 63 97 ++ 46 ∷ replicate 63 97))

-- behind 64 letters and "@" they are a mail address
pub longest : IsMailbox longest_mailbox
unfolding four_labels
longest = then (replicate 64 97) (64 ∷ four_labels) longest_mailbox
    (record {
      rule = inl (separated-from_joined 46 Atom (replicate 64 97)
          (record { parts = replicate 64 97 ∷ []; some = omega arith; each = (atom (replicate 64 97) refl (omega arith), tt); spelled = refl }));
      size = omega arith;
    })
    (then (64 ∷ []) four_labels (64 ∷ four_labels) refl
    (record {
      rule = inl (separated-from_joined 46 IsSubDomain four_labels (record {
        parts = replicate 63 97 ∷ replicate 63 97 ∷ replicate 63 97 ∷ replicate 63 97 ∷ [];
        some = omega arith;
        each = (label_63, (label_63, (label_63, (label_63, tt))));
        spelled = refl;
      }));
      size = omega arith;
    }) refl) refl
