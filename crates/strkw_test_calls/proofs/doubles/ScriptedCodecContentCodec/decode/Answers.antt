use Rattle.std.proofs.Common.{refl}
use Rattle.std.proofs.lemmas.Str.{encodes-chars}
use Rattle.strkw_test_calls.proofs.doubles.ScriptedCodecContentCodec.decode.Goals as goal

pub returns-then-self-clause-text : goal.returns-then-self-clause-text
returns-then-self-clause-text c =
    rw (c.if-self.true, encodes-chars c.args.value.now c.utf8.value, c.in_ok-push_str.ensures.bytes, c.in_ok-text.ensures.ok) refl
