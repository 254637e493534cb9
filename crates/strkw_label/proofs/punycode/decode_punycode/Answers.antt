use Rattle.std.proofs.Common.{◌≡◌, ◌≤◌, length, rules, sym, subst}
use Rattle.std.proofs.lemmas.Option.{IfSome_then}
use Rattle.strkw_label.specs.Punycode.{punycode, SameUpToCase}
use Rattle.strkw_label.proofs.Payloads.{same_by_bytes}
use Rattle.strkw_label.proofs.punycode.decode_punycode.Goals as goal

pub returns-clause-sound : goal.returns-clause-sound
returns-clause-sound g c =
    let e : c.as_bytes.result.now ≡ c.args.input.now = search rules in
    IfSome_then c.decode_payload.result c.decode_payload.ensures.sound
    (λ t same. (same_by_bytes t.items c.args.input.now c.utf8.input).1 (subst (λ xs. SameUpToCase xs (punycode t.items)) e same))

pub returns-clause-complete : goal.returns-clause-complete
returns-clause-complete g c = λ text scalar short same.
    let e : c.as_bytes.result.now ≡ c.args.input.now = search rules in
    let bytes = (same_by_bytes text c.args.input.now c.utf8.input).0 same in
    c.decode_payload.ensures.complete text scalar (subst (λ xs. length xs ≤ 59) (sym e) short) (subst (λ xs. SameUpToCase xs (punycode text)) (sym e) bytes)
