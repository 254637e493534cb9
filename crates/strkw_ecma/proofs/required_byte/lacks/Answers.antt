use Rattle.std.proofs.Common.{subst}
use Rattle.memchr.specs.Find.{IsFirstByte, is_byte}
use Rattle.strkw_text.proofs.Delimiters.{chars_without}
use Rattle.strkw_ecma.proofs.Needs.{no_byte}
use Rattle.strkw_ecma.proofs.required_byte.lacks.Goals as goal

pub returns : goal.returns
returns c = λ none.
    chars_without c.args.byte c.requires.ascii c.args.text.now c.utf8.text
    (no_byte c.args.byte c.args.text.now c.memchr.result c.is_none.result
    (subst (λ l. IsFirstByte (is_byte c.args.byte) l c.memchr.result) c.as_bytes.ensures.value c.memchr.ensures)
    c.is_none.ensures none)
