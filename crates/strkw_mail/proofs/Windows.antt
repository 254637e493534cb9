-- How long mail addresses are.
use Rattle.std.proofs.Common.{ℕ, ◌≤◌, List, [], ◌∷◌, length, ap, arith}
use Rattle.std.specs.Char.{is_ascii_alphanumeric}
use Rattle.std.proofs.lemmas.List.{length-append}
use Rattle.strkw_text.specs.Abnf.{◌⨾◌, ◌∣◌, Literal, Optional, Repeat, OneOf}
use Rattle.strkw_text.specs.Bounds.{DerivesAtLeast}
use Rattle.strkw_text.proofs.Lengths.{Any-at_least, Literal-at_least, OneOf-at_least, Then-at_least, Either-at_least}
use Rattle.strkw_text.proofs.Separated.{SeparatedBy-at_least}
use Rattle.strkw_net.specs.Spellings.{LetDig}
use Rattle.strkw_mail.specs.Characters.{is_atext}
use Rattle.strkw_mail.specs.AddressLiteral.{LdhStr, Bracketed, AddressLiteral}
use Rattle.strkw_mail.specs.Mailbox.{Atom, DotString, QcontentSmtp, QuotedString, LocalPart, IsSubDomain, Domain, IsMailbox}

-- a local part has at least one character
local_part_some : DerivesAtLeast 1 LocalPart
local_part_some =
    let C = OneOf is_atext in
    let B = Repeat QcontentSmtp ⨾ Literal (34 ∷ []) in
    Either-at_least 1 DotString QuotedString
    (SeparatedBy-at_least 46 Atom 1 (Then-at_least 1 0 C (Repeat C) (OneOf-at_least is_atext) (Any-at_least (Repeat C))))
    (Then-at_least 1 0 (Literal (34 ∷ [])) B (Literal-at_least (34 ∷ [])) (Any-at_least B))

-- so has what follows the "@"
domain_some : DerivesAtLeast 1 (Domain ∣ AddressLiteral)
domain_some =
    let B = Bracketed ⨾ Literal (93 ∷ []) in
    Either-at_least 1 Domain AddressLiteral
    (SeparatedBy-at_least 46 IsSubDomain 1
    (λ text s. Then-at_least 1 0 LetDig (Optional LdhStr) (OneOf-at_least is_ascii_alphanumeric) (Any-at_least (Optional LdhStr)) text s.rule))
    (Then-at_least 1 0 (Literal (91 ∷ [])) B (Literal-at_least (91 ∷ [])) (Any-at_least B))

-- a mail address has 3 to 320 characters
pub mailbox_window : (text : List ℕ) → IsMailbox text → (3 ≤ length text) × (length text ≤ 320)
mailbox_window text h =
    let a = local_part_some h.front h.first.rule in
    let b = domain_some h.second.back h.second.second.rule in
    let whole = ap length h.joined in
    let parts = length-append h.front h.back in
    let behind = ap length h.second.joined in
    let more = length-append h.second.front h.second.back in
    let at = ap length h.second.first in
    (omega (arith, a, b, whole, parts, behind, more, at), omega (arith, h.first.size, h.second.second.size, whole, parts, behind, more, at))
