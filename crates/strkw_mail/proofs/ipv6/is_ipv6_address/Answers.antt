use Rattle.strkw_text.proofs.Equivalences.{carry, nope}
use Rattle.strkw_mail.proofs.Colons.{address_at_two, address_at_one, address_at_group}
use Rattle.strkw_mail.proofs.ipv6.is_ipv6_address.Goals as goal

pub returns-in-Some-strip : goal.returns-in-Some-strip
returns-in-Some-strip c = carry c.is_groups_behind.ensures (address_at_two c.args.bytes.now _ _ c.in-Some.ensures.cases c.in-Some-strip.ensures.cases)

pub returns-in-None-strip : goal.returns-in-None-strip
returns-in-None-strip c = nope (address_at_one c.args.bytes.now _ c.in-Some.ensures.cases c.in-None-strip.ensures.cases)

pub returns-in-None : goal.returns-in-None
returns-in-None c = carry c.is_from_group.ensures (address_at_group c.args.bytes.now c.in-None.ensures.cases)
