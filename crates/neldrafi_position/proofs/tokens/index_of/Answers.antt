use Rattle.std.proofs.Common.{◌≡◌, ◌∙◌, sym, ap, true, false}
use Rattle.neldrafi_position.specs.machine.Tokens.{begins_oddly}
use Rattle.neldrafi_position.proofs.Naming.{odd_is_none, parse_is}
use Rattle.neldrafi_position.proofs.tokens.index_of.Goals as goal

pub returns-then-begins_oddly : goal.returns-then-begins_oddly
returns-then-begins_oddly c =
    let odd : begins_oddly c.args.token.now ≡ true = ap begins_oddly (sym c.as_bytes.ensures.value) ∙ sym c.begins_oddly.ensures ∙ c.if-begins_oddly.true in
    sym (odd_is_none c.args.token.now odd)

pub returns : goal.returns
returns c =
    let plain : begins_oddly c.args.token.now ≡ false = ap begins_oddly (sym c.as_bytes.ensures.value) ∙ sym c.begins_oddly.ensures ∙ c.if-begins_oddly.false in
    c.ok.ensures.value ∙ parse_is c.args.token.now c.parse.result c.parse.ensures.value.0 plain
