use Rattle.std.proofs.Common.{refl}
use Rattle.std.proofs.lemmas.Str.{encodes-chars}
use Rattle.strkw_uses.proofs.registered.EightBitContentCodec.decode.Goals as goal

pub returns-clause-text : goal.returns-clause-text
returns-clause-text c = rw (encodes-chars c.args.value.now c.utf8.value, c.in_ok-from_str.ensures.ok) refl
