-- A mail address by what follows its "@".
use Rattle.std.proofs.Common.{◌≡◌, ◌↔◌, ℕ, ◌+◌, ◌≤◌, List, ◌++◌, length, refl, sym, ap, subst, ◌∙◌, arith, append_assoc}
use Rattle.std.proofs.lemmas.List.{length-append}
use Rattle.strkw_text.specs.Fronts.{StartsWith, StartsWithNo}
use Rattle.strkw_text.proofs.Laws.{then}
use Rattle.strkw_mail.specs.Mailbox.{IsDomain, IsMailbox}
use Rattle.strkw_mail.specs.Scan.{LocalPartAt, StartsOnly}
use Rattle.strkw_mail.specs.declared.scan.Charset.{Charset}
use Rattle.strkw_mail.specs.declared.scan.Charset.TheVariants.{Ascii}

-- a mail address begins with a local part and its "@"
mailbox_start : (text : List ℕ) → (h : IsMailbox text) → StartsWith (LocalPartAt Ascii) text h.second.back
mailbox_start text h = record {
  front = h.front ++ h.second.front;
  is = then h.front h.second.front (h.front ++ h.second.front) h.first.rule h.second.first refl;
  joined = append_assoc h.front h.second.front h.second.back ∙ ap (λ s. h.front ++ s) h.second.joined ∙ h.joined;
}

-- where no local part and "@" are in front, there is none
pub no_mailbox : (text : List ℕ) → StartsWithNo (LocalPartAt Ascii) text → IsMailbox text → ⊥
no_mailbox text n h = n h.second.back (mailbox_start text h)

-- the rest is no longer than the text
pub rest_within : (s : Charset) (text rest : List ℕ) → StartsOnly (LocalPartAt s) text rest → length rest ≤ length text
rest_within s text rest only =
    let f = (only rest).1 refl in
    omega (arith, ap length f.joined, length-append f.front rest)

-- where one text alone can follow them
-- a mail address is there exactly where at most 64 characters stand before "@", and a domain follows
pub mailbox_by_rest : (text rest : List ℕ) → StartsOnly (LocalPartAt Ascii) text rest → IsMailbox text ↔ ((length text ≤ length rest + 65) × IsDomain rest)
mailbox_by_rest text rest only = (
  λ h.
      let same : rest ≡ h.second.back = (only h.second.back).0 (mailbox_start text h) in (
        omega (
          arith,
          h.first.size,
          ap length h.joined,
          length-append h.front h.back,
          ap length h.second.joined,
          length-append h.second.front h.second.back,
          ap length h.second.first,
          ap length same,
        ),
        subst IsDomain (sym same) h.second.second,
      ),
  λ d.
      let f = (only rest).1 refl in
      let whole : f.is.front ++ (f.is.back ++ rest) ≡ text = sym (append_assoc f.is.front f.is.back rest) ∙ ap (λ s. s ++ rest) f.is.joined ∙ f.joined in
      let size : length f.is.front ≤ 64 = omega (
        arith,
        d.0,
        ap length whole,
        length-append f.is.front (f.is.back ++ rest),
        length-append f.is.back rest,
        ap length f.is.second,
      ) in
      then f.is.front (f.is.back ++ rest) text (record { rule = f.is.first; size = size }) (then f.is.back rest (f.is.back ++ rest) f.is.second d.1 refl) whole,
)
