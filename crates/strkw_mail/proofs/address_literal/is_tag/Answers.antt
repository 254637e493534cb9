use Rattle.std.proofs.Common.{get_or, take, length, ◌-◌, sym, subst, IsTrue, ◌↔◌}
use Rattle.strkw_text.specs.Abnf.{Empty}
use Rattle.strkw_text.proofs.Optionals.{empty_test}
use Rattle.strkw_net.specs.HostName.{is_letter_digit_hyphen}
use Rattle.strkw_mail.proofs.Tags.{front_and_last, ldh_by_last, run_all}
use Rattle.strkw_mail.proofs.address_literal.is_tag.Goals as goal

pub returns-then-is_ascii_alphanumeric : goal.returns-then-is_ascii_alphanumeric
returns-then-is_ascii_alphanumeric c =
    let bs = c.args.bytes.now in
    let nothing = subst (λ b. IsTrue b ↔ Empty c.skip.result.now) (sym c.is_empty.ensures) (empty_test c.skip.result.now) in
    let i = ldh_by_last bs (take (length bs - 1) bs) (get_or bs (length bs - 1) 0) (front_and_last bs c.in-len1-up.len_at_least) in
    let r = run_all is_letter_digit_hyphen _ _ c.skip.ensures.run in (
      λ t. i.1 (sym c.if-is_ascii_alphanumeric.ensures.value, r.1 (nothing.0 t)),
      λ h. nothing.1 (r.0 (i.0 h).1),
    )
