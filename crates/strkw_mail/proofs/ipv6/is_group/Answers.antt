use Rattle.std.proofs.Common.{arith, rules, tests, sym, ◌∙◌}
use Rattle.std.specs.Char.{is_ascii_hexdigit}
use Rattle.std.proofs.lemmas.Iterator.{YieldsList-from_slice}
use Rattle.std.proofs.lemmas.Iterator.Search.{all_from_yields_List}
use Rattle.strkw_text.proofs.Equivalences.{nope}
use Rattle.strkw_mail.proofs.Numbers.{hex_tested}
use Rattle.strkw_mail.proofs.ipv6.is_group.Goals as goal

pub returns-then-bytes-lt1 : goal.returns-then-bytes-lt1
returns-then-bytes-lt1 c = nope (λ h. let d = (hex_tested c.args.bytes.now).0 h in omega (arith, d.1, d.2, c.then-bytes-lt1.either))

pub returns : goal.returns
returns c =
    let bs = c.args.bytes.now in
    let i = hex_tested bs in
    let found = all_from_yields_List is_ascii_hexdigit _ _ c.all.result c.all.ensures.ran (YieldsList-from_slice bs cc)
    (λ x b q k. search (rules, tests)) in
    (λ t. i.1 (sym found ∙ t, c.if-bytes-lt1.false, c.if-bytes-gt4.false), λ h. found ∙ (i.0 h).0)
