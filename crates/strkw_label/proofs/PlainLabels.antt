-- NR-LDH labels at the front of a text.
use Rattle.std.proofs.Common.{◌≡◌, ℕ, ◌+◌, List, ◌↔◌, length, get_or, take, drop, inl, inr, refl, sym, subst, ◌∙◌, lit<, arith}
use Rattle.std.specs.List.{AllByRecursion}
use Rattle.std.proofs.Math.Nat.{min-le_left}
use Rattle.std.proofs.lemmas.Bool.{cases_lt}
use Rattle.std.proofs.lemmas.List.{get_or-take, get_or_past, length-take}
use Rattle.strkw_text.specs.Abnf.{Form, SeparatedBy}
use Rattle.strkw_text.proofs.Separated.{separated_parts}
use Rattle.strkw_net.specs.HostName.{IsLabel}
use Rattle.strkw_net.proofs.FirstLabels.{front, more_labels}
use Rattle.strkw_net.proofs.HostNameLemmas.{parts, label_without_dot}
use Rattle.strkw_label.specs.HostName.{IsHostNameLabel, KeepsXnRules}
use Rattle.strkw_label.specs.IdnHostName.{IsPlainLabel, HasReservedHyphens}
use Rattle.strkw_label.proofs.XnLabels.{prefix_and_payload, hyphen_of_prefix}

-- a label without hyphens in third and fourth place keeps the rules of XN-labels, since it is none
pub keeps_rules : (label : List ℕ) → (HasReservedHyphens label → ⊥) → KeepsXnRules label
keeps_rules label none = record {
  reserved = λ third fourth. absurd (none (third, fourth));
  encodes = λ payload xn.
      let prefix = (prefix_and_payload label payload xn).0 in
      absurd (none (hyphen_of_prefix label 2 (lit< tt) refl prefix, hyphen_of_prefix label 3 (lit< tt) refl prefix));
}

-- so an NR-LDH label is a label of a host name
pub host_name_label : (label : List ℕ) → IsPlainLabel label → IsHostNameLabel label
host_name_label label plain = record { ascii = plain.ascii; xn = keeps_rules label plain.reserved }

-- a text is plain labels with dots between them exactly where its parts between dots are
pub plain_by_parts : (bs : List ℕ) → SeparatedBy 46 IsPlainLabel bs ↔ AllByRecursion IsPlainLabel (parts bs)
plain_by_parts bs = separated_parts 46 IsPlainLabel (λ x l. label_without_dot x l.ascii) bs

-- a hyphen in what a text begins with stands at the same place of the text
hyphen_in_front : (n : ℕ) (bs : List ℕ) (k : ℕ) → get_or (take n bs) k 0 ≡ 45 → get_or bs k 0 ≡ 45
hyphen_in_front n bs k e = elim (cases_lt k (length (take n bs))) [
  | inl inside ↦ sym (get_or-take n bs k 0 (omega (arith, inside, length-take n bs, min-le_left n (length bs)))) ∙ e
  | inr past ↦ let none : 0 ≡ 45 = sym (get_or_past (take n bs) k 0 past) ∙ e in absurd (omega (arith, none))
]

-- a label in front of a text without hyphens in third and fourth place is a plain one
pub plain_in_front : (bs label : List ℕ) → label ≡ front bs → IsLabel label → (HasReservedHyphens bs → ⊥) → IsPlainLabel label
plain_in_front bs label is ascii none = record {
  ascii = ascii;
  reserved = λ reserved.
      let there = subst HasReservedHyphens is reserved in
      none (hyphen_in_front _ bs 2 there.0, hyphen_in_front _ bs 3 there.1);
}

-- the rest of a text is labels of a kind exactly where all of it is
abbrev pub AreAlike : Form → List ℕ → List ℕ → Type 0
AreAlike A rest bs = AllByRecursion A (parts rest) ↔ AllByRecursion A (parts bs)

-- and so is what follows one such label and its dot
pub alike_behind : (A : Form) (bs rest label after : List ℕ) → label ≡ front rest → (length label ≡ length rest → ⊥) → A label
    → after ≡ drop (length label + 1) rest → AreAlike A rest bs → AreAlike A after bs
alike_behind A bs rest label after is other a r so_far =
    let more = more_labels A rest label after is other a r in
    (λ h. so_far.0 (more.0 h), λ h. more.1 (so_far.1 h))

-- where plain labels stand before the rest, this holds of all three kinds
pub record PlainBefore (rest bs : List ℕ) : Type 0 where
  pub labels : AreAlike IsLabel rest bs
  pub plain : AreAlike IsPlainLabel rest bs
  pub host_name : AreAlike IsHostNameLabel rest bs

-- nothing stands before the whole text
pub nothing_before : (bs : List ℕ) → PlainBefore bs bs
nothing_before bs = record { labels = (λ h. h, λ h. h); plain = (λ h. h, λ h. h); host_name = (λ h. h, λ h. h) }

-- one plain label and its dot more stand before what follows them
pub one_more_before : (bs rest label after : List ℕ) → label ≡ front rest → (length label ≡ length rest → ⊥) → IsPlainLabel label
    → after ≡ drop (length label + 1) rest → PlainBefore rest bs → PlainBefore after bs
one_more_before bs rest label after is other plain r so_far = record {
  labels = alike_behind IsLabel bs rest label after is other plain.ascii r so_far.labels;
  plain = alike_behind IsPlainLabel bs rest label after is other plain r so_far.plain;
  host_name = alike_behind IsHostNameLabel bs rest label after is other (host_name_label label plain) r so_far.host_name;
}
