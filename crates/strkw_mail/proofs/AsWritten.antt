-- The classes are those that the standards write.
use Rattle.std.proofs.Common.{◌≡◌, ℕ, ◌≤◌, Bool, true, false, refl, sym, ◌∙◌, arith, inl, inr}
use Rattle.std.specs.Char.{is_ascii_alphanumeric}
use Rattle.std.proofs.lemmas.Bool.{agree_below, agree_below_at, cases_lt}
use Rattle.std.proofs.lemmas.Bool.Decides.{nat_tests}
use Rattle.strkw_net.specs.HostName.{is_letter_digit_hyphen}
use Rattle.strkw_mail.specs.Characters.{is_atext, is_escaped, is_qtext_smtp, is_dcontent}
use Rattle.strkw_mail.specs.AsWritten.{let_dig_as_written, ldh_as_written, atext_as_written, escaped_as_written, qtext_smtp_as_written, dcontent_as_written}

-- two tests that agree on ASCII, and that fail past it
-- agree on each character
agree : (f g : ℕ → Bool) → agree_below f g 128 ≡ true → ((c : ℕ) → 128 ≤ c → f c ≡ false) → ((c : ℕ) → 128 ≤ c → g c ≡ false) → (c : ℕ) → f c ≡ g c
agree f g below past_f past_g c = elim (cases_lt c 128) [ inl l ↦ agree_below_at f g 128 c below l | inr h ↦ past_f c h ∙ sym (past_g c h) ]

-- atext is what RFC 5322 writes
pub atext : (c : ℕ) → is_atext c ≡ atext_as_written c
atext = agree is_atext atext_as_written refl (λ c h. grind (arith, nat_tests)) (λ c h. grind (arith, nat_tests))

-- what may stand behind a backslash is what RFC 5321 writes
pub escaped : (c : ℕ) → is_escaped c ≡ escaped_as_written c
escaped = agree is_escaped escaped_as_written refl (λ c h. grind (arith, nat_tests)) (λ c h. grind (arith, nat_tests))

-- so is qtextSMTP
pub qtext_smtp : (c : ℕ) → is_qtext_smtp c ≡ qtext_smtp_as_written c
qtext_smtp = agree is_qtext_smtp qtext_smtp_as_written refl (λ c h. grind (arith, nat_tests)) (λ c h. grind (arith, nat_tests))

-- dcontent
pub dcontent : (c : ℕ) → is_dcontent c ≡ dcontent_as_written c
dcontent = agree is_dcontent dcontent_as_written refl (λ c h. grind (arith, nat_tests)) (λ c h. grind (arith, nat_tests))

-- Let-dig
pub let_dig : (c : ℕ) → is_ascii_alphanumeric c ≡ let_dig_as_written c
let_dig = agree is_ascii_alphanumeric let_dig_as_written refl (λ c h. grind (arith, nat_tests)) (λ c h. grind (arith, nat_tests))

-- and a character of an Ldh-str
pub ldh : (c : ℕ) → is_letter_digit_hyphen c ≡ ldh_as_written c
ldh = agree is_letter_digit_hyphen ldh_as_written refl (λ c h. grind (arith, nat_tests)) (λ c h. grind (arith, nat_tests))
