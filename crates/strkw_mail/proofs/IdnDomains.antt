-- Internationalised domains by their labels, and those that are ASCII.
use Rattle.std.proofs.Common.{◌≡◌, ◌≢◌, ◌↔◌, ℕ, ◌<◌, ◌≤◌, true, eqb, List, [], ◌∷◌, ◌++◌, length, get_or, take, inl, inr}
use Rattle.std.proofs.Common.{IsUtf8, refl, sym, ap, subst, ◌∙◌, arith, ne_eqb}
use Rattle.std.specs.Char.{is_ascii}
use Rattle.std.specs.List.{AllByRecursion, concat, position_or_len}
use Rattle.std.specs.Str.{chars, IsAscii, IsNotAscii}
use Rattle.std.proofs.lemmas.Bool.{cases_lt, false≢true}
use Rattle.std.proofs.lemmas.Bool.Decides.{nat_tests}
use Rattle.std.proofs.lemmas.List.{take_all, take_at, drop_at, length-take-le}
use Rattle.std.proofs.lemmas.List.Elements.{All-from_get_or, All-from_recursion}
use Rattle.std.proofs.lemmas.List.Sums.{list_all-from_AllPass, position_or_len_is}
use Rattle.std.proofs.lemmas.Str.{encodes-chars, encodes-IsAscii, IsAscii-take, IsAscii-drop}
use Rattle.strkw_text.specs.Abnf.{Form, ◌⨾◌, Literal}
use Rattle.strkw_text.specs.Delimiters.{Without}
use Rattle.strkw_text.proofs.AsciiForms.{chars-from_ascii_chars}
use Rattle.strkw_text.proofs.Separated.{SeparatedBy-weaker}
use Rattle.strkw_label.specs.IdnHostName.{is_all_ascii, IsULabel}
use Rattle.strkw_label.proofs.ULabels.{label_no_dot}
use Rattle.strkw_net.specs.HostName.{IsLabel}
use Rattle.strkw_net.proofs.FirstLabels.{front}
use Rattle.strkw_net.proofs.HostNameLemmas.{label_without_dot}
use Rattle.strkw_mail.specs.Mailbox.{IsSubDomain, Domain, IsDomain}
use Rattle.strkw_mail.specs.IdnMailbox.{IsIdnSubDomain, IdnDomain, IsIdnDomain}
use Rattle.strkw_mail.proofs.Ascii.{IsSubDomain-ascii, AddressLiteral-ascii}
use Rattle.strkw_mail.proofs.Domains.{sub_domain_label}

-- ---- a label in ASCII

-- as many of the first elements as there are, are all
take_whole : (n : ℕ) (xs : List ℕ) → length (take n xs) ≡ length xs → take n xs ≡ xs
take_whole n xs e = elim (cases_lt n (length xs)) [
  | inl less ↦ absurd (omega (arith, e, less, length-take-le n xs (omega (arith, less))))
  | inr all ↦ take_all n xs all
]

-- where the label at the front is as long as the text, the text is that label
pub whole_label : (text label : List ℕ) → label ≡ front text → IsLabel label → length label ≡ length text → IsSubDomain text
whole_label text label is l all =
    let same : front text ≡ text = take_whole (position_or_len (λ c. eqb c 46) text) text (ap length (sym is) ∙ all) in
    (sub_domain_label text).1 (subst IsLabel (is ∙ same) l)

-- a label is all that stands before its first dot
pub label_is_front : (text : List ℕ) → IsSubDomain text → front text ≡ text
label_is_front text s =
    let without = All-from_recursion (λ d. d ≢ 46) text (label_without_dot text ((sub_domain_label text).0 s)) in
    let stop : position_or_len (λ c. eqb c 46) text ≡ length text =
    position_or_len_is (λ c. eqb c 46) text (length text) 0 (omega arith) (λ k h. ne_eqb (get_or text k 0) 46 (without k 0 h))
    (λ h. absurd (omega (arith, h))) in
    ap (λ n. take n text) stop ∙ take_all (length text) text (omega arith)

-- so that the label at its front is one
pub label_at_front : (text : List ℕ) → IsSubDomain text → IsLabel (front text)
label_at_front text s = subst IsLabel (sym (label_is_front text s)) ((sub_domain_label text).0 s)

-- ---- labels

-- no label has a dot
pub idn_label_no_dot : (x : List ℕ) → IsIdnSubDomain x → Without 46 x
idn_label_no_dot x (inl s) = label_without_dot x ((sub_domain_label x).0 s)
idn_label_no_dot x (inr u) = label_no_dot x u.rules

-- an ASCII text passes the test of all characters
all_ascii : (x : List ℕ) → IsAscii x → is_all_ascii x ≡ true
all_ascii x a = list_all-from_AllPass is_ascii x (All-from_get_or (λ c. is_ascii c ≡ true) x 0 (λ k lt. small (get_or x k 0) (a k)))
  where
    -- of one character
    small : (c : ℕ) → c < 128 → is_ascii c ≡ true
    small c h = grind (arith, nat_tests)

-- an ASCII label is one of RFC 5321
pub ascii_label : (x : List ℕ) → IsAscii x → IsIdnSubDomain x → IsSubDomain x
ascii_label x a (inl s) = s
ascii_label x a (inr u) = absurd (false≢true (sym u.rules.beyond_ascii ∙ all_ascii x a))

-- and another is a U-label
pub wide_label : (bs : List ℕ) → IsUtf8 bs → IsNotAscii bs → IsIdnSubDomain (chars bs) → IsULabel (chars bs)
wide_label bs u n (inl s) = absurd (let same = chars-from_ascii_chars bs u (IsSubDomain-ascii (chars bs) s) in
    let small = subst IsAscii same (IsSubDomain-ascii (chars bs) s) n.0 in omega (arith, small, n.1))
wide_label bs u n (inr l) = l

-- ---- ASCII domains

-- the first of two texts that make an ASCII text is ASCII
ascii_front : (xs ys : List ℕ) → IsAscii (xs ++ ys) → IsAscii xs
ascii_front xs ys a = subst IsAscii (take_at xs ys (length xs) refl) (IsAscii-take (xs ++ ys) (length xs) a)

-- and so is the second
ascii_back : (xs ys : List ℕ) → IsAscii (xs ++ ys) → IsAscii ys
ascii_back xs ys a = subst IsAscii (drop_at xs ys (length xs) refl) (IsAscii-drop (xs ++ ys) (length xs) a)

-- a dot and a label
abbrev DotLabel : Form → Form
DotLabel A = Literal (46 ∷ []) ⨾ A

-- in ASCII, labels behind dots are those of RFC 5321
ascii_rest : (parts : List (List ℕ)) → IsAscii (concat parts) → AllByRecursion (DotLabel IsIdnSubDomain) parts
    → AllByRecursion (DotLabel IsSubDomain) parts
ascii_rest [] a h = tt
ascii_rest (p ∷ ps) a h = (
  record {
    front = h.0.front;
    back = h.0.back;
    first = h.0.first;
    second = ascii_label h.0.back (ascii_back h.0.front h.0.back (subst IsAscii (sym h.0.joined) (ascii_front p (concat ps) a))) h.0.second;
    joined = h.0.joined;
  },
  ascii_rest ps (ascii_back p (concat ps) a) h.1,
)

-- an ASCII domain name is one of RFC 5321
ascii_name : (text : List ℕ) → IsAscii text → IdnDomain text → Domain text
ascii_name text a h =
    let whole = subst IsAscii (sym h.joined) a in
    let behind = subst IsAscii (sym h.second.joined) (ascii_back h.front h.back whole) in
    record {
      front = h.front;
      back = h.back;
      first = ascii_label h.front (ascii_front h.front h.back whole) h.first;
      second = record { parts = h.second.parts; each = ascii_rest h.second.parts behind h.second.each; joined = h.second.joined };
      joined = h.joined;
    }

-- and the other way round
pub name_is_wide : (text : List ℕ) → Domain text → IdnDomain text
name_is_wide text d = SeparatedBy-weaker 46 IsSubDomain IsIdnSubDomain (λ x s. inl s) text d

-- so is what follows the "@", in ASCII
pub ascii_domain : (text : List ℕ) → IsAscii text → IsIdnDomain text ↔ IsDomain text
ascii_domain text a =
    let same = ap length (encodes-IsAscii text a) in (
      λ d. record {
        rule = elim d.rule [ inl n ↦ inl (ascii_name text a n) | inr l ↦ inr l ];
        size = omega (arith, d.size, same);
      },
      λ d. record {
        rule = elim d.rule [ inl n ↦ inl (name_is_wide text n) | inr l ↦ inr l ];
        size = omega (arith, d.size, same);
      },
    )

-- and past ASCII, it is a domain name, of at most 255 octets
pub wide_domain : (bs : List ℕ) → IsUtf8 bs → IsNotAscii bs → length bs ≤ 255
    → IsIdnDomain (chars bs) ↔ IdnDomain (chars bs)
wide_domain bs u n few = (
  λ d. elim d.rule [
    | inl name ↦ name
    | inr literal ↦ absurd (
        let same = chars-from_ascii_chars bs u (AddressLiteral-ascii (chars bs) literal) in
        let small = subst IsAscii same (AddressLiteral-ascii (chars bs) literal) n.0 in
        omega (arith, small, n.1))
  ],
  λ name. record { rule = inl name; size = omega (arith, few, ap length (encodes-chars bs u)) },
)

-- what has more octets is none
pub long_domain : (bs : List ℕ) → IsUtf8 bs → 255 < length bs → IsIdnDomain (chars bs) → ⊥
long_domain bs u many d = omega (arith, many, d.size, ap length (encodes-chars bs u))
