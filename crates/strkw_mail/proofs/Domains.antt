-- Domain names by their labels.
use Rattle.std.proofs.Common.{◌≡◌, ◌↔◌, ℕ, List, [], ◌∷◌, refl, inl, inr}
use Rattle.std.specs.Char.{is_ascii_alphanumeric}
use Rattle.std.specs.List.{AllByRecursion}
use Rattle.strkw_text.specs.Abnf.{Form, ◌⨾◌, Literal, Optional, Repeat, OneOf}
use Rattle.strkw_text.specs.Fronts.{StartsWithNo}
use Rattle.strkw_text.proofs.Laws.{back_cong, front_cong, Repeat-cases, no_start_then}
use Rattle.strkw_text.proofs.Runs.{one_stops, no_start_first}
use Rattle.strkw_text.proofs.Separated.{separated_parts}
use Rattle.strkw_net.specs.HostName.{IsLabel, is_letter_digit_hyphen}
use Rattle.strkw_net.specs.Spellings.{LetDig, Label}
use Rattle.strkw_net.specs.Spellings as net
use Rattle.strkw_net.proofs.HostNameLemmas.{parts, label_without_dot}
use Rattle.strkw_net.proofs.LabelSpelling.{label_by_grammar}
use Rattle.strkw_mail.specs.AddressLiteral.{LdhStr}
use Rattle.strkw_mail.specs.Mailbox.{SubDomain, IsSubDomain, Domain}

-- [A] may be exchanged for [B] where both derive the same texts
optional_cong : (A B : Form) (text : List ℕ) → A text ↔ B text → Optional A text ↔ Optional B text
optional_cong A B text i = (elim [ inl e ↦ inl e | inr a ↦ inr (i.0 a) ], elim [ inl e ↦ inl e | inr b ↦ inr (i.1 b) ])

-- RFC 5321's sub-domain is RFC 1034's label
sub_domain_rule : (text : List ℕ) → SubDomain text ↔ Label text
sub_domain_rule text =
    let L = Repeat (OneOf is_letter_digit_hyphen) in
    back_cong LetDig (Optional LdhStr) (Optional (Optional net.LdhStr ⨾ LetDig)) text
    (λ x. optional_cong LdhStr (Optional net.LdhStr ⨾ LetDig) x (front_cong L (Optional net.LdhStr) LetDig x (Repeat-cases (OneOf is_letter_digit_hyphen))))

-- with the limit of 63, it is a label of a host name
pub sub_domain_label : (text : List ℕ) → IsSubDomain text ↔ IsLabel text
sub_domain_label text = (
  λ s. (label_by_grammar text).1 ((sub_domain_rule text).0 s.rule, s.size),
  λ l. let g = (label_by_grammar text).0 l in record { rule = (sub_domain_rule text).1 g.0; size = g.1 },
)

-- a domain name's parts between dots are such labels
pub domain_parts : (text : List ℕ) → Domain text ↔ AllByRecursion IsSubDomain (parts text)
domain_parts text = separated_parts 46 IsSubDomain (λ x s. label_without_dot x ((sub_domain_label x).0 s)) text

-- no domain name begins with a bracket
pub no_bracket_first : (text rest : List ℕ) → text ≡ 91 ∷ rest → Domain text → ⊥
no_bracket_first text rest e =
    let letter = one_stops is_ascii_alphanumeric 91 text rest e refl in
    let label : StartsWithNo IsSubDomain text = λ behind f. no_start_first LetDig (Optional LdhStr) text letter behind
    (record { front = f.front; is = f.is.rule; joined = f.joined }) in
    no_start_then IsSubDomain (Repeat (Literal (46 ∷ []) ⨾ IsSubDomain)) text label
