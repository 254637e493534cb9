-- An internationalised mail address by the bytes behind its "@".
use Rattle.std.proofs.Common.{◌≡◌, ◌↔◌, ℕ, ◌+◌, ◌-◌, ◌<◌, ◌≤◌, ◌||◌, Bool, true, false, IsTrue, List, [], ◌∷◌, ◌++◌, length, get_or, drop, inl, inr}
use Rattle.std.proofs.Common.{encode_utf8_all, IsUtf8, IsCharBoundary, refl, sym, ap, subst, ◌∙◌, arith, append_assoc}
use Rattle.std.specs.Str.{chars}
use Rattle.std.proofs.lemmas.List.{length-append, get_or_at, drop_at}
use Rattle.std.proofs.lemmas.Str.{encodes-chars, encodes-IsAscii, encodes_same, IsUtf8-drop, IsCharBoundary-after_ascii}
use Rattle.strkw_text.specs.Abnf.{OneOf, Repeat}
use Rattle.strkw_text.specs.Fronts.{StartsWith, StartsWithNo}
use Rattle.strkw_text.proofs.Delimiters.{chars_cut}
use Rattle.strkw_text.proofs.Laws.{then, Repeat-weaker}
use Rattle.strkw_text.proofs.Separated.{SeparatedBy-weaker}
use Rattle.strkw_text.proofs.Weaker.{OneOf-weaker, Then-weaker, Either-weaker}
use Rattle.strkw_mail.specs.Characters.{is_atext, is_qtext_smtp}
use Rattle.strkw_mail.specs.IdnMailbox.{is_utf8_non_ascii, is_utf8_atext, is_utf8_qtext_smtp}
use Rattle.strkw_mail.specs.IdnMailbox.{IsIdnDomain, IsIdnMailbox}
use Rattle.strkw_mail.specs.Mailbox.{AtomOf, Atom, QuotedPairSmtp, QcontentOf, QcontentSmtp, LocalPartOf, LocalPart, IsMailbox}
use Rattle.strkw_mail.specs.Scan.{LocalPartAt, StartsOnly}
use Rattle.strkw_mail.specs.declared.scan.Charset.TheVariants.{Utf8}
use Rattle.strkw_mail.proofs.Ascii.{IsLocalPart-ascii, IsDomain-ascii}
use Rattle.strkw_mail.proofs.IdnDomains.{ascii_domain}
use Rattle.strkw_mail.proofs.Octets.{octets_around}
use Rattle.strkw_mail.proofs.WideLocalParts.{local_part_octets}

-- ---- the two parts

-- "@" is an ASCII character
at_low : 64 < 128
at_low = omega arith

-- a mail address is spelled by its local part, "@" and its domain
spelled : (text : List ℕ) → (h : IsIdnMailbox text) → text ≡ h.front ++ 64 ∷ h.second.back
spelled text h = sym (ap (λ u. h.front ++ (u ++ h.second.back)) (sym h.second.first) ∙ ap (λ u. h.front ++ u) h.second.joined ∙ h.joined)

-- the same of its octets
octets_spelled : (text : List ℕ) → (h : IsIdnMailbox text)
    → encode_utf8_all text ≡ encode_utf8_all h.front ++ 64 ∷ encode_utf8_all h.second.back
octets_spelled text h = ap encode_utf8_all (spelled text h) ∙ octets_around 64 at_low h.front h.second.back

-- its octets begin with those of a local part and "@"
idn_start : (text : List ℕ) → (h : IsIdnMailbox text) → StartsWith (LocalPartAt Utf8) (encode_utf8_all text) (encode_utf8_all h.second.back)
idn_start text h = record {
  front = encode_utf8_all h.front ++ 64 ∷ [];
  is = then (encode_utf8_all h.front) (64 ∷ []) (encode_utf8_all h.front ++ 64 ∷ []) ((local_part_octets h.front).0 h.first.rule) refl refl;
  joined = append_assoc (encode_utf8_all h.front) (64 ∷ []) (encode_utf8_all h.second.back) ∙ sym (octets_spelled text h);
}

module _ (bs : List ℕ) (u : IsUtf8 bs) where
  -- where no local part and "@" are in front of the bytes, the characters are no mail address
  pub no_idn_mailbox : StartsWithNo (LocalPartAt Utf8) bs → IsIdnMailbox (chars bs) → ⊥
  no_idn_mailbox n h = n (encode_utf8_all h.second.back)
      (subst (λ x. StartsWith (LocalPartAt Utf8) x (encode_utf8_all h.second.back)) (encodes-chars bs u) (idn_start (chars bs) h))

  -- where one text alone can follow them
  module _ (rest : List ℕ) (only : StartsOnly (LocalPartAt Utf8) bs rest) where
    -- what stands before "@" and it
    abbrev before : List ℕ
    before = ((only rest).1 refl).is.front

    -- is a local part
    local_part : LocalPartOf is_utf8_atext is_utf8_qtext_smtp before
    local_part = ((only rest).1 refl).is.first

    -- and these are the bytes
    parted : bs ≡ before ++ 64 ∷ rest
    parted =
        let f = (only rest).1 refl in
        sym (ap (λ x. f.is.front ++ (x ++ rest)) (sym f.is.second) ∙ sym (append_assoc f.is.front f.is.back rest) ∙ ap (λ x. x ++ rest) f.is.joined ∙ f.joined)

    -- so many bytes stand before the rest
    sizes : length bs ≡ length before + (1 + length rest)
    sizes = omega (arith, ap length parted, length-append before (64 ∷ rest))

    -- the text may be cut there
    pub cut_here : IsCharBoundary bs (length bs - length rest)
    cut_here =
        let inside : length before < length bs = omega (arith, sizes) in
        let at : get_or bs (length before) 0 ≡ 64 = ap (λ x. get_or x (length before) 0) parted ∙ get_or_at before 64 rest 0 (length before) refl in
        let place : length before + 1 ≡ length bs - length rest = omega (arith, sizes) in
        subst (IsCharBoundary bs) place (IsCharBoundary-after_ascii bs (length before) u inside (omega (arith, at)))

    -- and the rest follows
    pub rest_here : drop (length bs - length rest) bs ≡ rest
    rest_here =
        let whole : bs ≡ (before ++ 64 ∷ []) ++ rest = parted ∙ sym (append_assoc before (64 ∷ []) rest) in
        let size : length (before ++ 64 ∷ []) ≡ length bs - length rest = omega (arith, sizes, length-append before (64 ∷ [])) in
        ap (drop (length bs - length rest)) whole ∙ drop_at (before ++ 64 ∷ []) rest (length bs - length rest) size

    -- which is UTF-8
    rest_utf8 : IsUtf8 rest
    rest_utf8 = subst IsUtf8 rest_here (IsUtf8-drop bs (length bs - length rest) u cut_here)

    -- a mail address is there exactly where at most 64 bytes stand before "@", and a domain follows
    pub idn_mailbox_by_rest : IsIdnMailbox (chars bs) ↔ ((length bs ≤ length rest + 65) × IsIdnDomain (chars rest))
    idn_mailbox_by_rest = (
      λ h.
          let start = subst (λ x. StartsWith (LocalPartAt Utf8) x (encode_utf8_all h.second.back)) (encodes-chars bs u) (idn_start (chars bs) h) in
          let same : rest ≡ encode_utf8_all h.second.back = (only (encode_utf8_all h.second.back)).0 start in
          let whole : bs ≡ encode_utf8_all h.front ++ 64 ∷ encode_utf8_all h.second.back = sym (encodes-chars bs u) ∙ octets_spelled (chars bs) h in
          let size : length bs ≤ length rest + 65 = omega (
            arith,
            h.first.size,
            ap length whole,
            length-append (encode_utf8_all h.front) (64 ∷ encode_utf8_all h.second.back),
            ap length same,
          ) in
          (size, subst IsIdnDomain (sym (encodes_same (chars rest) h.second.back (encodes-chars rest rest_utf8 ∙ same))) h.second.second),
      λ d.
          let cut = chars_cut 64 at_low bs before rest u parted in
          let octets = encodes-chars before cut.utf8 in
          let rule = (local_part_octets (chars before)).1 (subst (LocalPartOf is_utf8_atext is_utf8_qtext_smtp) (sym octets) local_part) in
          then (chars before) (64 ∷ chars rest) (chars bs) (record { rule = rule; size = omega (arith, ap length octets, sizes, d.0) })
          (then (64 ∷ []) (chars rest) (64 ∷ chars rest) refl d.1 refl) (sym cut.is),
    )

-- ---- mail addresses in ASCII

-- where the first of two tests passes, one of both does
first_true : (a b : Bool) → IsTrue a → IsTrue (a || b)
first_true true b h = refl
first_true false b h = absurd (let e : false ≡ true = h in cc)

-- a local part is one with characters past ASCII too
local_part_wider : (x : List ℕ) → LocalPart x → LocalPartOf is_utf8_atext is_utf8_qtext_smtp x
local_part_wider =
    let atext = OneOf-weaker is_atext is_utf8_atext (λ c. first_true (is_atext c) (is_utf8_non_ascii c)) in
    let qtext = OneOf-weaker is_qtext_smtp is_utf8_qtext_smtp (λ c. first_true (is_qtext_smtp c) (is_utf8_non_ascii c)) in
    let atom = Then-weaker (OneOf is_atext) (OneOf is_utf8_atext) (Repeat (OneOf is_atext)) (Repeat (OneOf is_utf8_atext)) atext
    (Repeat-weaker (OneOf is_atext) (OneOf is_utf8_atext) atext) in
    let content = Repeat-weaker QcontentSmtp (QcontentOf is_utf8_qtext_smtp)
    (Either-weaker (OneOf is_qtext_smtp) (OneOf is_utf8_qtext_smtp) QuotedPairSmtp QuotedPairSmtp qtext (λ y h. h)) in
    λ x. elim [
      | inl a ↦ inl (SeparatedBy-weaker 46 Atom (AtomOf is_utf8_atext) atom x a)
      | inr b ↦ inr (then b.front b.back x b.first
          (then b.second.front b.second.back b.back (content b.second.front b.second.first) b.second.second b.second.joined) b.joined)
    ]

-- each mail address is an internationalised one
pub mailbox_is_idn : (text : List ℕ) → IsMailbox text → IsIdnMailbox text
mailbox_is_idn text h =
    let before = h.first in
    let domain = h.second.second in
    then h.front h.back text
    (record {
      rule = local_part_wider h.front before.rule;
      size = omega (arith, before.size, ap length (encodes-IsAscii h.front (IsLocalPart-ascii h.front before)));
    })
    (then h.second.front h.second.back h.back h.second.first
    ((ascii_domain h.second.back (IsDomain-ascii h.second.back domain)).1 domain) h.second.joined) h.joined
