use Rattle.std.proofs.Common.{◌≡◌, ◌∙◌, sym, ap, true, false}
use Rattle.neldrafi_schema.specs.machine.Words.{begins_oddly}
use Rattle.neldrafi_schema.proofs.Pointers.{odd_names_none, parse_names}
use Rattle.neldrafi_schema.proofs.places.place_named.Goals as goal

pub returns-then-begins_oddly : goal.returns-then-begins_oddly
returns-then-begins_oddly c =
    let odd : begins_oddly c.args.token.now ≡ true = ap begins_oddly (sym c.as_bytes.ensures.value) ∙ sym c.begins_oddly.ensures ∙ c.if-begins_oddly.true in
    sym (odd_names_none c.args.token.now odd)

pub returns : goal.returns
returns c =
    let plain : begins_oddly c.args.token.now ≡ false = ap begins_oddly (sym c.as_bytes.ensures.value) ∙ sym c.begins_oddly.ensures ∙ c.if-begins_oddly.false in
    c.ok.ensures.value ∙ parse_names c.args.token.now c.parse.result c.parse.ensures.value.0 plain
