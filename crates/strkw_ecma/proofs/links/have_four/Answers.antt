use Rattle.std.proofs.Common.{◌&&◌, sym, ap₂, ◌∙◌, arith}
use Rattle.strkw_ecma.proofs.Linked.{four_begin}
use Rattle.strkw_ecma.proofs.links.have_four.Goals as goal

pub returns : goal.returns
returns c classes tables =
    ap₂ ◌&&◌ (ap₂ ◌&&◌ (ap₂ ◌&&◌ (c.has_byte.ensures classes tables) (c.has_byte-2.ensures classes tables)) (c.has_byte-3.ensures classes tables))
    (c.has_byte-4.ensures classes tables)
    ∙ sym (four_begin classes c.args.numbers.now c.args.bytes.now (omega arith) (omega arith))
